-- Lemmas that the tests' proofs share.
pub mod FeedingLemmas
pub mod OpenTxLemmas

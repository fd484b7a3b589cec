-- The items of a vector of bytes are bytes.
use Rattle.std.proofs.Common.{◌≡◌, ◌<◌, List, ℕ, ◌∙◌, subst, arith}
use Rattle.std.specs.Prelude.{slice_index}
use Rattle.amq_model.proofs.bytes.Bytes.as_slice.Goals as goal

pub returns-clause-bytes : goal.returns-clause-bytes
returns-clause-bytes c = λ i.
    let is : c.as_slice-bytes.result.now ≡ c.args.self.now = c.as_slice-bytes.ensures.value ∙ c.self.view_is in
    let P : List ℕ → Type 0 = λ l. slice_index l i < 256 in
    let here : slice_index c.as_slice-bytes.result.now i < 256 = grind arith in
    subst P is here

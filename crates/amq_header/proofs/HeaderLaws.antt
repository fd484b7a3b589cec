-- A header that is written is the header that is read.
use Rattle.std.proofs.Common.{◌≡◌, ℕ, ◌+◌, ◌^◌, ◌<◌, ◌≤◌, Bool, true, false, cond, leb, List, [], ◌++◌, length, take, drop, Some, None, refl, sym, ap, ◌∙◌, append_assoc, subst, arith, length-append}
use Rattle.std.specs.Int.{w32, w64, from_be_bytes}
use Rattle.std.proofs.lemmas.Bool.{le-leb, leb-true}
use Rattle.std.proofs.lemmas.List.{take_at, drop_at, drop-drop, length-take, length-drop, take-append-drop, take-take, drop-take}
use Rattle.std.proofs.lemmas.Nat.{be_bytes_4, be_bytes_8, from_be_bytes-to_be_bytes_4, from_be_bytes-to_be_bytes_8}
use Rattle.amq_model.specs.RecordAt.{long, word, IsBytes}
use Rattle.amq_model.specs.Directory.{file_of}
use Rattle.amq_record.proofs.Fields.{IsBytes-drop, IsBytes-take}
use Rattle.amq_record.proofs.Lengths.{length_long, length_word}
use Rattle.amq_header.specs.declared.header.Header.{Header}
use Rattle.amq_header.specs.Headers.{IsHeader, header_of, header_bytes, header_in}

-- the fields that stand at the head of a file
pub record Stands (bytes : List ℕ) (h : Header) : Type 0 where
  pub version : from_be_bytes w32 (take 4 bytes) ≡ h.version
  pub user_version : from_be_bytes w32 (take 4 (drop 4 bytes)) ≡ h.user_version
  pub id : from_be_bytes w64 (take 8 (drop 8 bytes)) ≡ h.id

abbrev made : ℕ → ℕ → ℕ → Header
made v u i = record { version = v; user_version = u; id = i }

same_header : (bytes : List ℕ) (h : Header) → Stands bytes h → header_of (file_of [] bytes) ≡ h
same_header bytes h s =
    ap (λ (v : ℕ). made v (from_be_bytes w32 (take 4 (drop 4 bytes))) (from_be_bytes w64 (take 8 (drop 8 bytes)))) s.version
    ∙ ap (λ (u : ℕ). made h.version u (from_be_bytes w64 (take 8 (drop 8 bytes)))) s.user_version
    ∙ ap (λ (i : ℕ). made h.version h.user_version i) s.id

module _ (h : Header) (rest : List ℕ) (is : IsHeader h) where
  behind_user_version : List ℕ
  behind_user_version = long h.id ++ rest

  behind_version : List ℕ
  behind_version = word h.user_version ++ behind_user_version

  parts : header_bytes h ++ rest ≡ word h.version ++ behind_version
  unfolding behind_version behind_user_version
  parts = append_assoc (word h.version) (word h.user_version ++ long h.id) rest ∙ ap (λ (l : List ℕ). word h.version ++ l) (append_assoc (word h.user_version) (long h.id) rest)

  read_word : (n : ℕ) → n < 2 ^ 32 → from_be_bytes w32 (word n) ≡ n
  unfolding word
  read_word n low = from_be_bytes-to_be_bytes_4 n low

  read_long : (n : ℕ) → n < 2 ^ 64 → from_be_bytes w64 (long n) ≡ n
  unfolding long
  read_long n low = from_be_bytes-to_be_bytes_8 n low

  stands : Stands (word h.version ++ behind_version) h
  unfolding behind_version behind_user_version
  stands = record {
    version = ap (from_be_bytes w32) (take_at (word h.version) behind_version 4 (length_word h.version)) ∙ read_word h.version is.version;
    user_version = ap (λ (l : List ℕ). from_be_bytes w32 (take 4 l)) (drop_at (word h.version) behind_version 4 (length_word h.version))
        ∙ ap (from_be_bytes w32) (take_at (word h.user_version) behind_user_version 4 (length_word h.user_version)) ∙ read_word h.user_version is.user_version;
    id = ap (λ (l : List ℕ). from_be_bytes w64 (take 8 l)) (sym (drop-drop 4 4 (word h.version ++ behind_version)) ∙ ap (drop 4) (drop_at (word h.version) behind_version 4 (length_word h.version)) ∙ drop_at (word h.user_version) behind_user_version 4 (length_word h.user_version))
        ∙ ap (from_be_bytes w64) (take_at (long h.id) rest 8 (length_long h.id)) ∙ read_long h.id is.id;
  }

  whole : leb 16 (length (header_bytes h ++ rest)) ≡ true
  whole = le-leb 16 _ (omega (arith, length-append (header_bytes h) rest, length-append (word h.version) (word h.user_version ++ long h.id), length-append (word h.user_version) (long h.id), length_word h.version, length_word h.user_version, length_long h.id))

  pub read_again : header_in (header_bytes h ++ rest) ≡ Some h
  read_again = ap (λ (b : Bool). cond b (Some (header_of (file_of [] (header_bytes h ++ rest)))) None) whole ∙ ap (λ (l : List ℕ). Some (header_of (file_of [] l))) parts ∙ ap Some (same_header (word h.version ++ behind_version) h stands)

-- ---- and the other way

got : (b : Bool) (x y : Header) → cond b (Some x) None ≡ Some y → (b ≡ true) × (x ≡ y)
got true x y e = (refl, cc)
got false x y e = absurd cc

write_word : (bytes : List ℕ) → length bytes ≡ 4 → IsBytes bytes → (word (from_be_bytes w32 bytes) ≡ bytes) × (from_be_bytes w32 bytes < 2 ^ 32)
unfolding word
write_word bytes len fits = (be_bytes_4 bytes _ len fits refl, omega (arith, fits 0, fits 1, fits 2, fits 3))

write_long : (bytes : List ℕ) → length bytes ≡ 8 → IsBytes bytes → (long (from_be_bytes w64 bytes) ≡ bytes) × (from_be_bytes w64 bytes < 2 ^ 64)
unfolding long
write_long bytes len fits = (be_bytes_8 bytes _ len fits refl, omega (arith, fits 0, fits 1, fits 2, fits 3, fits 4, fits 5, fits 6, fits 7))

split_take : (m n : ℕ) (l : List ℕ) → take m l ++ take n (drop m l) ≡ take (m + n) l
split_take m n l =
    ap (λ (k : List ℕ). k ++ take n (drop m l)) (sym (take-take m (m + n) l (omega arith)))
    ∙ ap (λ (k : List ℕ). take m (take (m + n) l) ++ k) (sym (drop-take m n l))
    ∙ take-append-drop m (take (m + n) l)

pub written_again : (bytes : List ℕ) (h : Header) → IsBytes bytes → header_in bytes ≡ Some h → IsHeader h × (header_bytes h ≡ take 16 bytes)
written_again bytes h fits e = (
  record {
    version = subst (λ (k : Header). k.version < 2 ^ 32) g.1 version.1;
    user_version = subst (λ (k : Header). k.user_version < 2 ^ 32) g.1 user_version.1;
    id = subst (λ (k : Header). k.id < 2 ^ 64) g.1 id.1;
  },
  sym (ap header_bytes g.1)
      ∙ ap (λ (l : List ℕ). l ++ (word (from_be_bytes w32 (take 4 (drop 4 bytes))) ++ long (from_be_bytes w64 (take 8 (drop 8 bytes))))) version.0
      ∙ ap (λ (l : List ℕ). take 4 bytes ++ (l ++ long (from_be_bytes w64 (take 8 (drop 8 bytes))))) user_version.0
      ∙ ap (λ (l : List ℕ). take 4 bytes ++ (take 4 (drop 4 bytes) ++ l)) (id.0 ∙ ap (take 8) (sym (drop-drop 4 4 bytes)))
      ∙ ap (λ (l : List ℕ). take 4 bytes ++ l) (split_take 4 8 (drop 4 bytes))
      ∙ split_take 4 12 bytes,
)
  where
    g : (leb 16 (length bytes) ≡ true) × (header_of (file_of [] bytes) ≡ h)
    g = got (leb 16 (length bytes)) (header_of (file_of [] bytes)) h e

    long_enough : 16 ≤ length bytes
    long_enough = leb-true 16 (length bytes) g.0

    version : (word (from_be_bytes w32 (take 4 bytes)) ≡ take 4 bytes) × (from_be_bytes w32 (take 4 bytes) < 2 ^ 32)
    version = write_word (take 4 bytes) (omega (arith, long_enough, length-take 4 bytes)) (IsBytes-take 4 bytes fits)

    user_version : (word (from_be_bytes w32 (take 4 (drop 4 bytes))) ≡ take 4 (drop 4 bytes)) × (from_be_bytes w32 (take 4 (drop 4 bytes)) < 2 ^ 32)
    user_version = write_word (take 4 (drop 4 bytes)) (omega (arith, long_enough, length-take 4 (drop 4 bytes), length-drop 4 bytes)) (IsBytes-take 4 (drop 4 bytes) (IsBytes-drop 4 bytes fits))

    id : (long (from_be_bytes w64 (take 8 (drop 8 bytes))) ≡ take 8 (drop 8 bytes)) × (from_be_bytes w64 (take 8 (drop 8 bytes)) < 2 ^ 64)
    id = write_long (take 8 (drop 8 bytes)) (omega (arith, long_enough, length-take 8 (drop 8 bytes), length-drop 8 bytes)) (IsBytes-take 8 (drop 8 bytes) (IsBytes-drop 8 bytes fits))

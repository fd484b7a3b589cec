-- What contracts see of a timed buffer.
use Rattle.std.specs.Prelude.{◌≡◌, ℕ, ◌-◌, Bool, false, nat_le, List, Option, None, Some, refl}
use Rattle.std.specs.Coded.{Coded, code_by, coded×, coded_ℕ, coded_list, coded_option}

-- the bytes of the records in it, how many bytes it can hold, how old its first record may become, and when that came
pub record Buffered : Type 0 where
  pub bytes : List ℕ
  pub capacity : ℕ
  pub timeout : ℕ
  pub since : Option ℕ

abbrev pub buffered_code : Coded Buffered
buffered_code =
    code_by (List ℕ × (ℕ × (ℕ × Option ℕ))) (coded× (coded_list coded_ℕ) (coded× coded_ℕ (coded× coded_ℕ (coded_option coded_ℕ))))
    (λ b. (b.bytes, (b.capacity, (b.timeout, b.since))))
    (λ p. record { bytes = p.0; capacity = p.1.0; timeout = p.1.1.0; since = p.1.1.1 })
    (λ _. refl)

-- when the first record came, if this one is put now
abbrev pub begun : ℕ → Option ℕ → Option ℕ
begun now None = Some now
begun now (Some first) = Some first

-- a record is in it, and the first one is at least so old
abbrev pub is_due : ℕ → ℕ → Option ℕ → Bool
is_due now timeout None = false
is_due now timeout (Some first) = nat_le timeout (now - first)

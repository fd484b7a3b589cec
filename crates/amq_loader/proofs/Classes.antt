-- What the class of a name tells.
use Rattle.std.proofs.Common.{◌≡◌, ℕ, Bool, true, false, List, Option, Some, None, refl, ap, ◌∙◌}
use Rattle.std.specs.Prelude.{is_some, ◌||◌}
use Rattle.amq_model.specs.Names.{same, data_number, compacted_number, is_data, is_compacted, control_name}
use Rattle.amq_header.specs.declared.classes.FileClass.{FileClass}
use Rattle.amq_header.specs.declared.classes.FileClass.TheVariants.{DataFile, Compacted, Temporary, Control, Other}
use Rattle.amq_header.specs.Classes.{IsOfClass, first_number, temporary_number}
use Rattle.amq_header.proofs.Endings.{same_is}
use Rattle.amq_header.proofs.Exclusive.{class_from, is_class_of, one_class, temporary_is}
use Rattle.amq_loader.specs.Loads.{number_of, is_leftover}

abbrev pub data_class : FileClass → Bool
data_class (DataFile n) = true
data_class (Compacted n) = false
data_class (Temporary n) = false
data_class Control = false
data_class Other = false

abbrev pub leftover_class : FileClass → Bool
leftover_class (DataFile n) = false
leftover_class (Compacted n) = true
leftover_class (Temporary n) = true
leftover_class Control = false
leftover_class Other = false

abbrev pub control_class : FileClass → Bool
control_class (DataFile n) = false
control_class (Compacted n) = false
control_class (Temporary n) = false
control_class Control = true
control_class Other = false

abbrev pub number_class : FileClass → Option ℕ
number_class (DataFile n) = Some n
number_class (Compacted n) = Some n
number_class (Temporary n) = n
number_class Control = None
number_class Other = None

data_from : (d c : Option ℕ) (t : Option (Option ℕ)) (p : Bool) → is_some d ≡ data_class (class_from d c t p)
data_from (Some n) c t p = refl
data_from None (Some n) t p = refl
data_from None None (Some n) p = refl
data_from None None None true = refl
data_from None None None false = refl

pub data_of : (name : List ℕ) (class : FileClass) → IsOfClass name class → is_data name ≡ data_class class
data_of name class is = data_from (data_number name) (compacted_number name) (temporary_number name) (same name control_name) ∙ ap data_class (is_class_of name class is)

leftover_from : (d c : Option ℕ) (t : Option (Option ℕ)) (p : Bool) → ((n m : ℕ) → d ≡ Some n → c ≡ Some m → ⊥) → ((n : ℕ) (m : Option ℕ) → d ≡ Some n → t ≡ Some m → ⊥) → (is_some c || is_some t) ≡ leftover_class (class_from d c t p)
leftover_from (Some n) (Some m) t p one other = absurd (one n m refl refl)
leftover_from (Some n) None (Some m) p one other = absurd (other n m refl refl)
leftover_from (Some n) None None p one other = refl
leftover_from None (Some n) t p one other = refl
leftover_from None None (Some n) p one other = refl
leftover_from None None None true one other = refl
leftover_from None None None false one other = refl

pub leftover_of : (name : List ℕ) (class : FileClass) → IsOfClass name class → is_leftover name ≡ leftover_class class
leftover_of name class is =
    ap (λ (b : Bool). is_compacted name || b) (temporary_is name)
    ∙ leftover_from (data_number name) (compacted_number name) (temporary_number name) (same name control_name)
    (λ n m a b. let e : DataFile n ≡ Compacted m = one_class name (DataFile n) (Compacted m) a b in cc)
    (λ n m a b. let e : DataFile n ≡ Temporary m = one_class name (DataFile n) (Temporary m) a b in cc)
    ∙ ap leftover_class (is_class_of name class is)

control_from : (d c : Option ℕ) (t : Option (Option ℕ)) (p : Bool) → ((n : ℕ) → d ≡ Some n → p ≡ true → ⊥) → ((n : ℕ) → c ≡ Some n → p ≡ true → ⊥) → ((n : Option ℕ) → t ≡ Some n → p ≡ true → ⊥) → p ≡ control_class (class_from d c t p)
control_from (Some n) c t true x y z = absurd (x n refl refl)
control_from (Some n) c t false x y z = refl
control_from None (Some n) t true x y z = absurd (y n refl refl)
control_from None (Some n) t false x y z = refl
control_from None None (Some n) true x y z = absurd (z n refl refl)
control_from None None (Some n) false x y z = refl
control_from None None None true x y z = refl
control_from None None None false x y z = refl

pub control_of : (name : List ℕ) (class : FileClass) → IsOfClass name class → same name control_name ≡ control_class class
control_of name class is =
    control_from (data_number name) (compacted_number name) (temporary_number name) (same name control_name)
    (λ n a b. let e : DataFile n ≡ Control = one_class name (DataFile n) Control a (same_is name control_name b) in cc)
    (λ n a b. let e : Compacted n ≡ Control = one_class name (Compacted n) Control a (same_is name control_name b) in cc)
    (λ n a b. let e : Temporary n ≡ Control = one_class name (Temporary n) Control a (same_is name control_name b) in cc)
    ∙ ap control_class (is_class_of name class is)

number_from : (d c : Option ℕ) (t : Option (Option ℕ)) (p : Bool) → ((n : Option ℕ) → t ≡ Some n → p ≡ true → ⊥)
    → elim (first_number d c p) as (λ x. Option ℕ) [ Some n ↦ n | None ↦ elim t [ Some n ↦ n | None ↦ None ] ] ≡ number_class (class_from d c t p)
number_from (Some n) c t p other = refl
number_from None (Some n) t p other = refl
number_from None None (Some n) true other = absurd (other n refl refl)
number_from None None (Some n) false other = refl
number_from None None None true other = refl
number_from None None None false other = refl

pub number_is : (name : List ℕ) (class : FileClass) → IsOfClass name class → number_of name ≡ number_class class
number_is name class is =
    number_from (data_number name) (compacted_number name) (temporary_number name) (same name control_name)
    (λ n a b. let e : Temporary n ≡ Control = one_class name (Temporary n) Control a (same_is name control_name b) in cc)
    ∙ ap number_class (is_class_of name class is)

-- ---- names of no such class

pub not_data : (class : FileClass) → ((n : ℕ) → class ≡ DataFile n → ⊥) → data_class class ≡ false
not_data (DataFile n) other = absurd (other n refl)
not_data (Compacted n) other = refl
not_data (Temporary n) other = refl
not_data Control other = refl
not_data Other other = refl

pub not_control : (class : FileClass) → (class ≡ Control → ⊥) → control_class class ≡ false
not_control (DataFile n) other = refl
not_control (Compacted n) other = refl
not_control (Temporary n) other = refl
not_control Control other = absurd (other refl)
not_control Other other = refl

pub not_leftover : (class : FileClass) → ((n : ℕ) → class ≡ Compacted n → ⊥) → ((n : Option ℕ) → class ≡ Temporary n → ⊥) → leftover_class class ≡ false
not_leftover (DataFile n) one other = refl
not_leftover (Compacted n) one other = absurd (one n refl)
not_leftover (Temporary n) one other = absurd (other n refl)
not_leftover Control one other = refl
not_leftover Other one other = refl

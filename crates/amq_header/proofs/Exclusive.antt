-- A name has at most one class.
use Rattle.std.proofs.Common.{◌≡◌, ℕ, arith, Bool, true, false, List, codes, Option, Some, None, refl, sym, ap, ◌∙◌}
use Rattle.std.specs.Prelude.{◌||◌, is_some}
use Rattle.std.specs.Option.{option_and_then}
use Rattle.std.proofs.lemmas.Option.{option_and_then_some}
use Rattle.amq_model.specs.Names.{same, before, behind, data_number, number_spelled, is_data, compacted_number, is_compacted, is_temporary, control_name}
use Rattle.amq_header.specs.declared.classes.FileClass.{FileClass}
use Rattle.amq_header.specs.declared.classes.FileClass.TheVariants.{DataFile, Compacted, Temporary, Control, Other}
use Rattle.amq_header.specs.Classes.{IsOfClass, first_number, number_in, temporary_number}
use Rattle.amq_header.proofs.Endings.{mark, mark_is, mark_behind, same_is}

-- ---- the last byte but two tells the classes with a number apart

pub data_mark : (name : List ℕ) (n : ℕ) → data_number name ≡ Some n → mark name ≡ 97
data_mark name n e =
    option_and_then_some (λ rest. option_and_then number_spelled (before (codes ".amq") rest)) (behind (codes "activemq-data-") name) n e
    (λ rest r e. option_and_then_some number_spelled (before (codes ".amq") rest) n e (λ front f spelled. mark_behind (codes "activemq-data-") (codes ".amq") name rest front refl r f))

pub compacted_mark : (name : List ℕ) (n : ℕ) → compacted_number name ≡ Some n → mark name ≡ 99
compacted_mark name n e = option_and_then_some data_number (before (codes ".cmp") name) n e (λ front f d. mark_is (codes ".cmp") name front refl f)

pub temporary_mark : (name : List ℕ) (n : Option ℕ) → temporary_number name ≡ Some n → mark name ≡ 116
temporary_mark name n e = option_and_then_some number_in (before (codes ".tmp") name) n e (λ front f d. mark_is (codes ".tmp") name front refl f)

-- ---- the class is a function of the name

-- the first of these that there is
abbrev pub class_from : Option ℕ → Option ℕ → Option (Option ℕ) → Bool → FileClass
class_from (Some n) compacted temporary plain = DataFile n
class_from None (Some n) temporary plain = Compacted n
class_from None None (Some n) plain = Temporary n
class_from None None None true = Control
class_from None None None false = Other

abbrev pub class_of : List ℕ → FileClass
class_of name = class_from (data_number name) (compacted_number name) (temporary_number name) (same name control_name)

none : {A : Type 0} (o : Option A) → ((x : A) → o ≡ Some x → ⊥) → o ≡ None
none None h = refl
none (Some x) h = absurd (h x refl)

apart : (a b : ℕ) → (a ≡ b → ⊥) → (name : List ℕ) → mark name ≡ a → mark name ≡ b → ⊥
apart a b ne name x y = ne (sym x ∙ y)

no_data : (name : List ℕ) → (mark name ≡ 97 → ⊥) → data_number name ≡ None
no_data name other = none (data_number name) (λ n e. other (data_mark name n e))

no_compacted : (name : List ℕ) → (mark name ≡ 99 → ⊥) → compacted_number name ≡ None
no_compacted name other = none (compacted_number name) (λ n e. other (compacted_mark name n e))

pub is_class_of : (name : List ℕ) (class : FileClass) → IsOfClass name class → class_of name ≡ class
is_class_of name (DataFile n) is = ap (λ (o : Option ℕ). class_from o (compacted_number name) (temporary_number name) (same name control_name)) is
is_class_of name (Compacted n) is =
    let marked = compacted_mark name n is in
    ap (λ (o : Option ℕ). class_from o (compacted_number name) (temporary_number name) (same name control_name)) (no_data name (λ e. omega (arith, marked, e)))
    ∙ ap (λ (o : Option ℕ). class_from None o (temporary_number name) (same name control_name)) is
is_class_of name (Temporary n) is =
    let marked = temporary_mark name n is in
    ap (λ (o : Option ℕ). class_from o (compacted_number name) (temporary_number name) (same name control_name)) (no_data name (λ e. omega (arith, marked, e)))
    ∙ ap (λ (o : Option ℕ). class_from None o (temporary_number name) (same name control_name)) (no_compacted name (λ e. omega (arith, marked, e)))
    ∙ ap (λ (o : Option (Option ℕ)). class_from None None o (same name control_name)) is
is_class_of name Control is = ap class_of is
is_class_of name Other is =
    ap (λ (o : Option ℕ). class_from o (compacted_number name) (temporary_number name) (same name control_name)) is.0
    ∙ ap (λ (o : Option ℕ). class_from None o (temporary_number name) (same name control_name)) is.1
    ∙ ap (λ (o : Option (Option ℕ)). class_from None None o (same name control_name)) is.2
    ∙ ap (class_from None None None) (not_same (same name control_name) refl)
  where
    not_same : (b : Bool) → same name control_name ≡ b → same name control_name ≡ false
    not_same true e = absurd (is.3 (same_is name control_name e))
    not_same false e = e

pub one_class : (name : List ℕ) (a b : FileClass) → IsOfClass name a → IsOfClass name b → a ≡ b
one_class name a b x y = sym (is_class_of name a x) ∙ is_class_of name b y

-- ---- temporary names

said : (d c : Option ℕ) (plain : Bool) → (is_some d || is_some c || plain) ≡ is_some (first_number d c plain)
said (Some n) compacted plain = refl
said None (Some n) plain = refl
said None None true = refl
said None None false = refl

said_before : (front : Option (List ℕ)) → elim front as (λ x. Bool) [ None ↦ false | Some front ↦ is_data front || is_compacted front || same front control_name ] ≡ is_some (option_and_then number_in front)
said_before None = refl
said_before (Some front) = said (data_number front) (compacted_number front) (same front control_name)

pub temporary_is : (name : List ℕ) → is_temporary name ≡ is_some (temporary_number name)
temporary_is name = said_before (before (codes ".tmp") name)

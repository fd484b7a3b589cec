-- What was said, one more at its end.
use Rattle.std.proofs.Common.{◌≡◌, ℕ, ◌+◌, ◌<◌, ◌||◌, cond, List, [], ◌∷◌, ◌++◌, length, fold, count_by, Option, Some, None, arith, refl, sym, ap, ◌∙◌}
use Rattle.std.specs.List.{onto_first, list_any, cons_option}
use Rattle.amq_model.specs.declared.script.Line.{Line}
use Rattle.amq_model.specs.declared.script.Mode.{Mode}
use Rattle.amq_model.specs.declared.script.Keyword.{Keyword}
use Rattle.amq_model.specs.declared.script.Keyword.TheVariants as k
use Rattle.amq_model.specs.declared.script.Said.{Said}
use Rattle.amq_model.specs.declared.script.Said.TheVariants.{Section, Says}
use Rattle.amq_model.specs.Names.{same}
use Rattle.amq_model.specs.Script.{word_at, sections_of, is_section, labels_behind, arguments_said, keyword_said, words_say, keyword_named}
use Rattle.std.proofs.lemmas.List.Sums.{sum_by-cons}
use Rattle.std.proofs.lemmas.List.{length-append}

-- ---- the sections

-- an item more in the last list
onto_last : {A : Type 0} → A → List (List A) → List (List A)
onto_last x [] = []
onto_last x (c ∷ []) = (c ++ x ∷ []) ∷ []
onto_last x (c ∷ d ∷ cs) = c ∷ onto_last x (d ∷ cs)

onto_last-append : {A : Type 0} (x : A) (front : List (List A)) (last : List A) → onto_last x (front ++ last ∷ []) ≡ front ++ (last ++ x ∷ []) ∷ []
unfolding onto_last
onto_last-append x [] last = refl
onto_last-append x (c ∷ []) last = refl
onto_last-append x (c ∷ d ∷ cs) last = ap (λ l. c ∷ l) (onto_last-append x (d ∷ cs) last)

onto_last-cons : {A : Type 0} (x : A) (c : List A) (cs : List (List A)) → 0 < length cs → onto_last x (c ∷ cs) ≡ c ∷ onto_last x cs
unfolding onto_last
onto_last-cons x c [] some = absurd (omega (arith, some))
onto_last-cons x c (d ∷ cs) some = refl

first_and_last : {A : Type 0} (x y : A) (cs : List (List A)) → 0 < length cs → onto_first y (onto_last x cs) ≡ onto_last x (onto_first y cs)
unfolding onto_last
first_and_last x y [] some = absurd (omega (arith, some))
first_and_last x y (c ∷ []) some = refl
first_and_last x y (c ∷ d ∷ cs) some = refl

onto_first-append : {A : Type 0} (y : A) (cs more : List (List A)) → 0 < length cs → onto_first y (cs ++ more) ≡ onto_first y cs ++ more
onto_first-append y [] more some = absurd (omega (arith, some))
onto_first-append y (c ∷ cs) more some = refl

length-onto_first : {A : Type 0} (y : A) (cs : List (List A)) → 0 < length cs → length (onto_first y cs) ≡ length cs
length-onto_first y [] some = absurd (omega (arith, some))
length-onto_first y (c ∷ cs) some = refl

-- one more section list than sections
pub length-sections_of : (saids : List Said) → length (sections_of saids) ≡ count_by is_section saids + 1
length-sections_of [] = refl
length-sections_of (Section ∷ saids) = omega (arith, length-sections_of saids, sum_by-cons (λ said. cond (is_section said) 1 0) Section saids)
length-sections_of (Says line ∷ saids) =
    let ih = length-sections_of saids in
    omega (arith, ih, length-onto_first line (sections_of saids) (omega (arith, ih)), sum_by-cons (λ said. cond (is_section said) 1 0) (Says line) saids)

some_sections : (saids : List Said) → 0 < length (sections_of saids)
some_sections saids = omega (arith, length-sections_of saids)

says_more : (saids : List Said) (line : Line) → sections_of (saids ++ Says line ∷ []) ≡ onto_last line (sections_of saids)
unfolding onto_last
says_more [] line = refl
says_more (Section ∷ saids) line = ap (λ l. [] ∷ l) (says_more saids line) ∙ sym (onto_last-cons line [] (sections_of saids) (some_sections saids))
says_more (Says other ∷ saids) line = ap (onto_first other) (says_more saids line) ∙ first_and_last line other (sections_of saids) (some_sections saids)

-- a line more stands in the last section
pub sections_of-says : (saids : List Said) (line : Line) (front : List (List Line)) (last : List Line) → sections_of saids ≡ front ++ last ∷ [] → sections_of (saids ++ Says line ∷ []) ≡ front ++ (last ++ line ∷ []) ∷ []
sections_of-says saids line front last e = says_more saids line ∙ ap (onto_last line) e ∙ onto_last-append line front last

-- a section more begins behind the last one
pub sections_of-section : (saids : List Said) → sections_of (saids ++ Section ∷ []) ≡ sections_of saids ++ [] ∷ []
sections_of-section [] = refl
sections_of-section (Section ∷ saids) = ap (λ l. [] ∷ l) (sections_of-section saids)
sections_of-section (Says line ∷ saids) = ap (onto_first line) (sections_of-section saids) ∙ onto_first-append line (sections_of saids) ([] ∷ []) (some_sections saids)

-- how many sections began
pub count_sections : (saids : List Said) (front : List (List Line)) (last : List Line) → sections_of saids ≡ front ++ last ∷ [] → count_by is_section saids ≡ length front
count_sections saids front last e = omega (arith, length-sections_of saids, ap length e, length-append front (last ∷ []))

-- ---- the labels

-- what one more line leaves of the labels
pub labels_more : (saids : List Said) (said : Said) (labels : List (List ℕ)) → fold labels_behind labels (saids ++ said ∷ []) ≡ labels_behind (fold labels_behind labels saids) said
labels_more [] said labels = refl
labels_more (other ∷ saids) said labels = labels_more saids said (labels_behind labels other)

-- a line asks only which labels there are
same_arguments : (a b words : List (List ℕ)) (keyword : Keyword) → ((x : List ℕ) → list_any (same x) a ≡ list_any (same x) b) → arguments_said a words keyword ≡ arguments_said b words keyword
same_arguments a b words k.Add e = refl
same_arguments a b words k.Update e = refl
same_arguments a b words k.Delete e = refl
same_arguments a b words k.Begin e = refl
same_arguments a b words k.Bind e = refl
same_arguments a b words k.AddTx e = rw (e (word_at words 1)) refl
same_arguments a b words k.UpdateTx e = rw (e (word_at words 1)) refl
same_arguments a b words k.DeleteTx e = rw (e (word_at words 1)) refl
same_arguments a b words k.Prepare e = rw (e (word_at words 1)) refl
same_arguments a b words k.Commit e = rw (e (word_at words 1)) refl
same_arguments a b words k.Rollback e = rw (e (word_at words 1)) refl
same_arguments a b words k.Flush e = refl
same_arguments a b words k.Tick e = refl
same_arguments a b words k.Reclaim e = refl
same_arguments a b words k.Compact e = refl
same_arguments a b words k.Step e = refl
same_arguments a b words k.Producer e = refl

same_keyword : (mode : Mode) (sections : ℕ) (a b words : List (List ℕ)) (keyword : Option Keyword) → ((x : List ℕ) → list_any (same x) a ≡ list_any (same x) b) → keyword_said mode sections a words keyword ≡ keyword_said mode sections b words keyword
same_keyword mode sections a b words None e = refl
same_keyword mode sections a b words (Some keyword) e = rw (same_arguments a b words keyword e) refl

pub same_words : (mode : Mode) (sections : ℕ) (a b words : List (List ℕ)) → ((x : List ℕ) → list_any (same x) a ≡ list_any (same x) b) → words_say mode sections a words ≡ words_say mode sections b words
same_words mode sections a b words e = rw (same_keyword mode sections a b words (keyword_named (word_at words 0)) e) refl

-- the labels that there are, one line further on
pub same_behind : (x : List ℕ) (label : Option (List ℕ)) (a b : List (List ℕ)) → list_any (same x) a ≡ list_any (same x) b → list_any (same x) (cons_option label a) ≡ list_any (same x) (cons_option label b)
same_behind x None a b e = e
same_behind x (Some label) a b e = ap (λ t. same x label || t) e

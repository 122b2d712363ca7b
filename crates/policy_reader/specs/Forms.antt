-- The forms of a rule, with the words for them and their keys.
use Rattle.std.specs.Prelude.{codes, ℕ, Bool, true, false, nat_eq, List, [], ◌∷◌, Option, None}
use Rattle.std.specs.Prelude.{Some, if◌then◌else◌}
use Rattle.std.specs.Cmp.Lexicographic.{pointwise}
use Rattle.policy_reader.specs.declared.form.Form.{Form}
use Rattle.policy_reader.specs.declared.form.Form.TheVariants.{Pair, SomeOf, AllOf, SomeTo, AllTo}
use Rattle.policy_reader.specs.declared.form.Form.TheVariants.{AtMost, AtLeast}
use Rattle.policy_reader.specs.declared.format.Format.{Format}
use Rattle.policy_reader.specs.declared.format.Format.TheVariants.{First, Second}

-- the word for a form
abbrev pub form_word : Form → List ℕ
form_word Pair = codes "pair"
form_word SomeOf = codes "some"
form_word AllOf = codes "all"
form_word SomeTo = codes "some_to"
form_word AllTo = codes "all_to"
form_word AtMost = codes "at_most"
form_word AtLeast = codes "at_least"

-- the keys of a rule of a form
abbrev pub form_keys : Form → List (List ℕ)
form_keys Pair = codes "first" ∷ codes "form" ∷ codes "relation" ∷ codes "second" ∷ []
form_keys SomeOf = codes "form" ∷ codes "group" ∷ codes "relation" ∷ codes "step" ∷ []
form_keys AllOf = codes "form" ∷ codes "group" ∷ codes "relation" ∷ codes "step" ∷ []
form_keys SomeTo = codes "form" ∷ codes "group" ∷ codes "relation" ∷ codes "step" ∷ []
form_keys AllTo = codes "form" ∷ codes "group" ∷ codes "relation" ∷ codes "step" ∷ []
form_keys AtMost = codes "form" ∷ codes "group" ∷ codes "limit" ∷ []
form_keys AtLeast = codes "form" ∷ codes "group" ∷ codes "limit" ∷ []

-- a form that the first format has too
abbrev pub is_first_form : Form → Bool
is_first_form Pair = true
is_first_form SomeOf = true
is_first_form AllOf = true
is_first_form SomeTo = false
is_first_form AllTo = false
is_first_form AtMost = false
is_first_form AtLeast = false

-- a format has a form
abbrev pub knows_form : Format → Form → Bool
knows_form First form = is_first_form form
knows_form Second form = true

-- the form with a word, in whatever format
abbrev pub any_form_of_word : List ℕ → Option Form
any_form_of_word text =
    if pointwise nat_eq text (form_word Pair) then Some Pair
    else if pointwise nat_eq text (form_word SomeOf) then Some SomeOf
    else if pointwise nat_eq text (form_word AllOf) then Some AllOf
    else if pointwise nat_eq text (form_word SomeTo) then Some SomeTo
    else if pointwise nat_eq text (form_word AllTo) then Some AllTo
    else if pointwise nat_eq text (form_word AtMost) then Some AtMost
    else if pointwise nat_eq text (form_word AtLeast) then Some AtLeast
    else None

-- a form where a format has it
abbrev pub form_within : Format → Option Form → Option Form
form_within format None = None
form_within format (Some form) = if knows_form format form then Some form else None

-- the form of a format with a word
abbrev pub form_of_word : Format → List ℕ → Option Form
form_of_word format text = form_within format (any_form_of_word text)

-- Keys of two lists, one behind the other, and the keys of an edit.
use Rattle.std.proofs.Common.{◌≡◌, ℕ, List, ◌∷◌, ◌++◌, Bool, true, refl, Result, Ok, Err, Option, Some, arith}
use Rattle.std.specs.Prelude.{◌||◌, is_some, IsErrAnd}
use Rattle.std.specs.List.{list_any}
use Rattle.std.proofs.lemmas.List.Folds.{list_any-append}
use Rattle.serde_json.specs.Data.{Data, Members}
use Rattle.basics.specs.Laws.Reading.{◌>>=◌, Gives, or_fault, check, each}
use Rattle.wf_talk.specs.declared.edit.Edit.{Edit}
use Rattle.wf_talk.specs.declared.request.Request.{Request}
use Rattle.wf_talk.specs.declared.request.Bad.{Bad}
use Rattle.wf_talk.specs.declared.request.Bad.TheVariants.{Key, Extra}
use Rattle.wire_json.specs.Requests.{Row, by, name_at_key, the_name, has_form, has_only, request_by}
use Rattle.wire_json.specs.Words.{edit_by}

pub any_of_both : (p : List ℕ → Bool) (xs ys : List (List ℕ)) → list_any p (xs ++ ys) ≡ (list_any p xs || list_any p ys)
any_of_both p xs ys = list_any-append p xs ys

-- ---- the keys of an edit

err_first : {A B : Type 0} (r : Result A Bad) (x : B) (b : Bad) → (r >>= (λ _. Ok x)) ≡ Err b → r ≡ Err b
err_first r x b h = grind arith

-- an edit is read exactly where its keys are
pub no_edit : (r : Row Edit) (d : Data) (b : Bad) → edit_by r d ≡ Err b → each (λ (_ : Unit {0}) key. check (has_form d key) (Key key)) tt r.keys ≡ Err b
no_edit r d b h = err_first (each (λ (_ : Unit {0}) key. check (has_form d key) (Key key)) tt r.keys) (r.is d) b h

-- ---- a request that asks for an edit by its row

named_by : (d : Data) (o : Option (List ℕ)) (name : List ℕ) → or_fault o (Key by) ≡ Ok name → is_some o ≡ true
named_by d o name h = grind arith

pub edit_refused : (others : List (List ℕ)) (r : Row Edit) (is : Data → Request) (d : Data) (ms : Members) (name : List ℕ) (b : Bad)
    → or_fault (name_at_key by d) (Key by) ≡ Ok name → edit_by r d ≡ Err b → request_by others (by ∷ r.keys) is d ms ≡ Err b
unfolding request_by
edit_refused others r is d ms name b h e = rw (named_by d (name_at_key by d) name h, no_edit r d b e) refl

pub key_refused : (others : List (List ℕ)) (r : Row Edit) (is : Data → Request) (d : Data) (ms : Members) (known : List (List ℕ)) (name : List ℕ) (x : Edit)
    (b : Bad)
    → known ≡ r.keys → or_fault (name_at_key by d) (Key by) ≡ Ok name → edit_by r d ≡ Ok x → check (has_only (others ++ by ∷ known) ms) Extra ≡ Err b
    → request_by others (by ∷ r.keys) is d ms ≡ Err b
unfolding request_by
key_refused others r is d ms known name x b same h e k = grind arith

no_name : (o : Option (List ℕ)) (b : Bad) → or_fault o (Key by) ≡ Err b → check (is_some o) (Key by) ≡ Err b
no_name o b h = grind arith

pub by_refused : (others keys : List (List ℕ)) (is : Data → Request) (d : Data) (ms : Members) (b : Bad) → or_fault (name_at_key by d) (Key by) ≡ Err b
    → request_by others (by ∷ keys) is d ms ≡ Err b
unfolding request_by
by_refused others keys is d ms b h = rw (no_name (name_at_key by d) b h) refl

pub edit_asked : (others : List (List ℕ)) (r : Row Edit) (make : List ℕ → Edit → Request) (d : Data) (ms : Members) (known : List (List ℕ)) (name : List ℕ)
    (x : Edit) (u : Unit {0})
    → known ≡ r.keys → or_fault (name_at_key by d) (Key by) ≡ Ok name → edit_by r d ≡ Ok x → check (has_only (others ++ by ∷ known) ms) Extra ≡ Ok u
    → request_by others (by ∷ r.keys) (λ c. make (the_name by c) (r.is c)) d ms ≡ Ok (make name x)
unfolding request_by
edit_asked others r make d ms known name x u same h e k = grind arith

-- code that handed on a fault
pub handed_on : {A : Type 0} (result reading : Result A Bad) (b : Bad) → IsErrAnd result (λ e. e ≡ b) → reading ≡ Err b → Gives Some (λ r. r) result reading
handed_on result reading b is e = grind arith

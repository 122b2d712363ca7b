-- The keys that a request or an edit needs, one after the other.
use Rattle.std.proofs.Common.{◌≡◌, ℕ, List, [], ◌∷◌, ◌++◌, true, false, refl, Result, Ok, Err, Option, Some, arith}
use Rattle.std.specs.Prelude.{is_some, unwrap_or, nat_eq, IsErrAnd}
use Rattle.std.specs.Cmp.Lexicographic.{pointwise}
use Rattle.serde_json.specs.Data.{Data, Members}
use Rattle.basics.specs.Laws.Reading.{Gives, or_fault, check, each}
use Rattle.wf_talk.specs.declared.edit.Edit.{Edit}
use Rattle.wf_talk.specs.declared.request.Request.{Request}
use Rattle.wf_talk.specs.declared.request.Bad.{Bad}
use Rattle.wf_talk.specs.declared.request.Bad.TheVariants.{Key, Extra}
use Rattle.wire_json.specs.Requests.{Row, case, name_at_key, read_case, the_name, the_case, has_form, has_only, request_by}
use Rattle.wire_json.specs.Words.{edit_by}
use Rattle.wire_json.proofs.Keys.{handed_on}

-- each key has its form, or the fault of the first that has not
abbrev pub keys_read : Data → List (List ℕ) → Result (Unit {0}) Bad
keys_read d keys = each (λ (_ : Unit {0}) key. check (has_form d key) (Key key)) tt keys

none_there : {A : Type 0} (o : Option A) (key : List ℕ) (b : Bad) → or_fault o (Key key) ≡ Err b → check (is_some o) (Key key) ≡ Err b
none_there o key b h = grind arith

one_there : {A : Type 0} (o : Option A) (key : List ℕ) (x : A) → or_fault o (Key key) ≡ Ok x → is_some o ≡ true
one_there o key x h = grind arith

then_there : {A : Type 0} (o : Option A) (key : List ℕ) (x : A) → or_fault o (Key key) ≡ Ok x → check (is_some o) (Key key) ≡ Ok tt
then_there o key x h = grind arith

it_is : {A : Type 0} (o : Option A) (other : A) (key : List ℕ) (x : A) → or_fault o (Key key) ≡ Ok x → unwrap_or o other ≡ x
it_is o other key x h = grind arith

-- ---- a name, at any key but that of a case

pub name_missing : (d : Data) (key : List ℕ) (keys : List (List ℕ)) (b : Bad) → pointwise nat_eq key case ≡ false
    → or_fault (name_at_key key d) (Key key) ≡ Err b → keys_read d (key ∷ keys) ≡ Err b
name_missing d key keys b other h = rw (other, none_there (name_at_key key d) key b h) refl

pub name_there : (d : Data) (key : List ℕ) (keys : List (List ℕ)) (name : List ℕ) → pointwise nat_eq key case ≡ false
    → or_fault (name_at_key key d) (Key key) ≡ Ok name → keys_read d (key ∷ keys) ≡ keys_read d keys
name_there d key keys name other h = rw (other, one_there (name_at_key key d) key name h) refl

pub name_is : (d : Data) (key name : List ℕ) → or_fault (name_at_key key d) (Key key) ≡ Ok name → the_name key d ≡ name
name_is d key name h = it_is (name_at_key key d) [] key name h

-- ---- the number of a case

pub case_missing : (d : Data) (keys : List (List ℕ)) (b : Bad) → or_fault (read_case d) (Key case) ≡ Err b → keys_read d (case ∷ keys) ≡ Err b
case_missing d keys b h = rw (none_there (read_case d) case b h) refl

pub case_there : (d : Data) (keys : List (List ℕ)) (n : ℕ) → or_fault (read_case d) (Key case) ≡ Ok n → keys_read d (case ∷ keys) ≡ keys_read d keys
case_there d keys n h = grind (arith, then_there)

pub case_is : (d : Data) (n : ℕ) → or_fault (read_case d) (Key case) ≡ Ok n → the_case d ≡ n
case_is d n h = it_is (read_case d) 0 case n h

edit_fault : (r : Row Edit) (keys : List (List ℕ)) (result : Result Edit Bad) (d : Data) (b : Bad) → r.keys ≡ keys → keys_read d keys ≡ Err b
    → IsErrAnd result (λ e. e ≡ b) → Gives Some (λ e. e) result (edit_by r d)
edit_fault r keys result d b same h is = handed_on result (edit_by r d) b is (rw (same, h) refl)

-- an edit whose row needs names alone: the first that is not there, or what is made of them
pub first_missing : (r : Row Edit) (result : Result Edit Bad) (d : Data) (a : List ℕ) (rest : List (List ℕ)) (fault : Bad) → r.keys ≡ a ∷ rest
    → pointwise nat_eq a case ≡ false → or_fault (name_at_key a d) (Key a) ≡ Err fault → IsErrAnd result (λ e. e ≡ fault)
    → Gives Some (λ e. e) result (edit_by r d)
first_missing r result d a rest fault same oa ha is = edit_fault r (a ∷ rest) result d fault same (name_missing d a rest fault oa ha) is

pub second_missing : (r : Row Edit) (result : Result Edit Bad) (d : Data) (a b : List ℕ) (rest : List (List ℕ)) (x : List ℕ) (fault : Bad)
    → r.keys ≡ a ∷ b ∷ rest → pointwise nat_eq a case ≡ false → pointwise nat_eq b case ≡ false → or_fault (name_at_key a d) (Key a) ≡ Ok x
    → or_fault (name_at_key b d) (Key b) ≡ Err fault → IsErrAnd result (λ e. e ≡ fault) → Gives Some (λ e. e) result (edit_by r d)
second_missing r result d a b rest x fault same oa ob ha hb is = grind arith

pub third_missing : (r : Row Edit) (result : Result Edit Bad) (d : Data) (a b c : List ℕ) (x y : List ℕ) (fault : Bad) → r.keys ≡ a ∷ b ∷ c ∷ []
    → pointwise nat_eq a case ≡ false → pointwise nat_eq b case ≡ false → pointwise nat_eq c case ≡ false → or_fault (name_at_key a d) (Key a) ≡ Ok x
    → or_fault (name_at_key b d) (Key b) ≡ Ok y → or_fault (name_at_key c d) (Key c) ≡ Err fault → IsErrAnd result (λ e. e ≡ fault)
    → Gives Some (λ e. e) result (edit_by r d)
third_missing r result d a b c x y fault same oa ob oc ha hb hc is = grind arith

pub two_read : (r : Row Edit) (d : Data) (a b x y : List ℕ) (made : List ℕ → List ℕ → Edit) → r.keys ≡ a ∷ b ∷ []
    → r.is d ≡ made (the_name a d) (the_name b d) → pointwise nat_eq a case ≡ false → pointwise nat_eq b case ≡ false
    → or_fault (name_at_key a d) (Key a) ≡ Ok x → or_fault (name_at_key b d) (Key b) ≡ Ok y → edit_by r d ≡ Ok (made x y)
two_read r d a b x y made same is oa ob ha hb = grind arith

pub three_read : (r : Row Edit) (d : Data) (a b c x y z : List ℕ) (made : List ℕ → List ℕ → List ℕ → Edit) → r.keys ≡ a ∷ b ∷ c ∷ []
    → r.is d ≡ made (the_name a d) (the_name b d) (the_name c d) → pointwise nat_eq a case ≡ false → pointwise nat_eq b case ≡ false
    → pointwise nat_eq c case ≡ false → or_fault (name_at_key a d) (Key a) ≡ Ok x → or_fault (name_at_key b d) (Key b) ≡ Ok y
    → or_fault (name_at_key c d) (Key c) ≡ Ok z → edit_by r d ≡ Ok (made x y z)
three_read r d a b c x y z made same is oa ob oc ha hb hc = grind arith

pub key_missing : (others keys : List (List ℕ)) (is : Data → Request) (d : Data) (ms : Members) (result : Result Request Bad) (b : Bad)
    → keys_read d keys ≡ Err b → IsErrAnd result (λ e. e ≡ b) → Gives Some (λ r. r) result (request_by others keys is d ms)
unfolding request_by
key_missing others keys is d ms result b h same = grind arith

pub key_extra : (others keys : List (List ℕ)) (is : Data → Request) (d : Data) (ms : Members) (result : Result Request Bad) (b : Bad)
    → keys_read d keys ≡ Ok tt → check (has_only (others ++ keys) ms) Extra ≡ Err b → IsErrAnd result (λ e. e ≡ b)
    → Gives Some (λ r. r) result (request_by others keys is d ms)
unfolding request_by
key_extra others keys is d ms result b h k same = grind arith

pub request_read : (others keys : List (List ℕ)) (is : Data → Request) (d : Data) (ms : Members) (u : Unit {0}) (r : Request) → keys_read d keys ≡ Ok tt
    → check (has_only (others ++ keys) ms) Extra ≡ Ok u → is d ≡ r → request_by others keys is d ms ≡ Ok r
unfolding request_by
request_read others keys is d ms u r h k e = grind arith

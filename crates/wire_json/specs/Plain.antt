-- Inside: the requests about a step as they are mostly written: their keys in any order, each once,
-- and no blanks but for one behind a colon or a comma.
use Rattle.std.specs.Prelude.{◌≡◌, ℕ, nat_lt, ◌≤◌, List, [], ◌∷◌, ◌++◌, codes, map, length}
use Rattle.std.specs.Prelude.{IsUtf8, Bool, true, Option, Some, None, option_map, if◌then◌else◌}
use Rattle.json.specs.Token.{Token, key}
use Rattle.json.specs.Json.{members, value}
use Rattle.json.specs.Print.{separator, ArePrintable}
use Rattle.json.specs.Spaced.{IsGap, AreGaps, print_spaced}
use Rattle.serde_json.specs.Data.{Data, Members, no_members, member, string, number, unsigned}
use Rattle.serde_json.specs.Read.{of_members, converted}
use Rattle.wf_talk.specs.declared.request.Request.{Request}
use Rattle.wf_talk.specs.declared.request.Request.TheVariants.{Claim, Finish, GiveBack}
use Rattle.wire_json.specs.declared.plain.Act.{Act}
use Rattle.wire_json.specs.declared.plain.Act.TheVariants as act
use Rattle.wire_json.specs.declared.plain.Known.{Known}

-- the word at the key do
abbrev pub word : Act → List ℕ
word act.Claim = codes "claim"
word act.Finish = codes "finish"
word act.GiveBack = codes "give_back"

-- what is asked of a step
abbrev pub request_of : Act → ℕ → List ℕ → List ℕ → Request
request_of act.Claim n s u = Claim n s u
request_of act.Finish n s u = Finish n s u
request_of act.GiveBack n s u = GiveBack n s u

-- the lane, which is below their number; the first one where none is known
abbrev pub lane_known : ℕ → Option ℕ → Option ℕ
lane_known lanes None = Some 0
lane_known lanes (Some n) = if nat_lt n lanes then Some n else None

-- members with one more in front of them, where its value is known
abbrev pub member_if : List ℕ → Option Data → Members → Members
member_if k None ms = ms
member_if k (Some d) ms = member k d ms

-- the members at the five keys, in the order of these
abbrev pub at_keys : Option Data → Option Data → Option Data → Option Data → Option Data → Members
at_keys case doing lane step user =
    let names = member_if (codes "step") step (member_if (codes "user") user no_members) in
    member_if (codes "case") case
    (member_if (codes "do") doing (member_if (codes "lane") lane names))

abbrev pub number_data : ℕ → Data
number_data n = number (unsigned n)

-- the members of which the values are known
abbrev pub known_members : Known → Members
known_members k =
    at_keys (option_map number_data k.case) (option_map (λ a. string (word a)) k.act)
    (option_map number_data k.lane) (option_map string k.step) (option_map string k.user)

-- the tokens of a text, each with the blanks before it
abbrev pub Spaced : Type 0
Spaced = List (List ℕ × Token)

abbrev pub unspaced : Spaced → List Token
unspaced ps = map (λ p. p.1) ps

-- a text is the rest of an object's: behind some members, which are known, or at the start of its
-- members, where none is; with those of the rest the object has all members that are named last
pub record IsRest (behind : Bool) (known : Members) (text : List ℕ) (all : Members) : Type 0 where
  pub tokens : Spaced
  pub is : text ≡ print_spaced behind tokens
  pub gaps : AreGaps tokens
  pub printable : ArePrintable (unspaced tokens)
  pub utf8 : IsUtf8 text
  pub reading : (n : ℕ) → length (unspaced tokens) ≤ n →
      converted (λ ms. of_members ms known) (members (value 126) n (unspaced tokens))
      ≡ Some (all, [])

-- what stands before a key
abbrev pub joint : Bool → List ℕ → List ℕ
joint behind gap = separator behind (key []) ++ gap

-- a text begins with a part, by which what was known before becomes what is known then
abbrev pub ReadsPart : List ℕ → Known → Known → List ℕ → Type 0
ReadsPart text old new rest =
    (behind : Bool) (gap : List ℕ) (all : Members) → IsGap gap
    → IsRest true (known_members new) rest all
    → IsRest behind (known_members old) (joint behind gap ++ text) all

-- a text begins with the value of a part, of which the key was read
abbrev pub ReadsValue : List ℕ → List ℕ → Known → Known → List ℕ → Type 0
ReadsValue k text old new rest =
    (gap : List ℕ) → IsGap gap → ReadsPart (34 ∷ (k ++ 34 ∷ 58 ∷ (gap ++ text))) old new rest

-- a text begins with some bytes and blanks
abbrev pub IsSpaced : List ℕ → List ℕ → List ℕ → Type 0
IsSpaced front text rest = (gap : List ℕ) × IsGap gap × (text ≡ front ++ (gap ++ rest))

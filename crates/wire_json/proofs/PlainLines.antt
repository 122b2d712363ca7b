-- What is read of the requests about a step as they are mostly written: the rest of a line is read on from the members that
-- are known, a part at a time.
use Rattle.std.proofs.Common.{◌≡◌, ℕ, ◌-◌, ◌<◌, ◌≤◌, ◌^◌, List, [], ◌∷◌, ◌++◌, length, Bool, true, false, Option, Some, None, option_map, Ok}
use Rattle.std.proofs.Common.{refl, sym, ap, subst, ◌∙◌, arith, append_assoc, le-leb, decimal, take_all, drop, take, get_or}
use Rattle.std.specs.Prelude.{codes, IsUtf8, IsTrue, is_some}
use Rattle.std.proofs.lemmas.Fmt.{IsAscii-decimal}
use Rattle.std.proofs.lemmas.Str.{IsUtf8-append, IsUtf8-from_ascii}
use Rattle.json.specs.Token.{Token, begin_object, end_object, key, string, number}
use Rattle.json.specs.Json.{members, value}
use Rattle.json.specs.Lex.{tokens}
use Rattle.json.specs.Print.{escape, separator, token_text, ends, IsPrintable, ArePrintable}
use Rattle.json.specs.Spaced.{IsGap, print_spaced}
use Rattle.json.proofs.Grammar.{value_is}
use Rattle.json.proofs.Printed.Tokens.{tokens-print_spaced}
use Rattle.json.proofs.Printed.Decimals.{IsNumber-decimal}
use Rattle.json.proofs.Printed.Utf8.{IsUtf8-are_ascii, IsUtf8-IsGap}
use Rattle.serde_json.specs.Data as v
use Rattle.serde_json.specs.Data.{Data, Members, no_members, object, put}
use Rattle.serde_json.specs.Read.{of_json, of_members, converted}
use Rattle.serde_json.proofs.Numbers.{number_of-decimal}
use Rattle.basics.specs.Laws.Reading.{◌>>=◌, or_fault}
use Rattle.wf_names.specs.Names.{is_name}
use Rattle.wf_names.proofs.NameForms.{name_utf8}
use Rattle.wf_talk.specs.declared.request.Request.{Request}
use Rattle.wf_talk.specs.declared.request.Bad.TheVariants.{Syntax}
use Rattle.wf_talk.specs.declared.request.Ask.TheVariants as ask
use Rattle.wire_json.specs.declared.plain.Act.{Act}
use Rattle.wire_json.specs.declared.plain.Act.TheVariants as act
use Rattle.wire_json.specs.declared.plain.Known.{Known}
use Rattle.wire_json.specs.Requests.{request_in, request_by, asked, asked_of, case, step, user}
use Rattle.wire_json.specs.declared.request.Asked.{Asked}
use Rattle.wire_json.specs.Values.{value_of}
use Rattle.wire_json.specs.Flats.{whole}
use Rattle.wire_json.specs.Plain.{word, request_of, lane_known, at_keys, number_data, known_members, Spaced, unspaced, IsRest, joint, ReadsValue}
use Rattle.wire_json.proofs.Values.{value_of_utf8}
use Rattle.wire_json.proofs.Texts.{name_stays}
use Rattle.wire_json.proofs.Flats.{member_read, members_over, object_read}

module _ (c d l s u : Option Data) (x : Data) where
  put_user : put user x (at_keys c d l s None) ≡ at_keys c d l s (Some x)
  put_user = grind arith

  put_step : put step x (at_keys c d l None u) ≡ at_keys c d l (Some x) u
  put_step = grind arith

  put_lane : put (codes "lane") x (at_keys c d None s u) ≡ at_keys c d (Some x) s u
  put_lane = grind arith

  put_do : put (codes "do") x (at_keys c None l s u) ≡ at_keys c (Some x) l s u
  put_do = grind arith

  put_case : put case x (at_keys None d l s u) ≡ at_keys (Some x) d l s u
  put_case = grind arith

-- ---- the rest of a line

-- a brace alone
pub rest_over : (known : Members) → IsRest true known (125 ∷ []) known
unfolding print_spaced ArePrintable
rest_over known = record {
  tokens = ([], end_object) ∷ [];
  is = refl;
  gaps = (tt, tt);
  printable = (tt, tt);
  utf8 = IsUtf8-are_ascii _ refl;
  reading = λ n enough. members_over (value 126) known n (end_object ∷ []) [] enough refl;
}

-- the line as a whole
pub line_read : (line rest : List ℕ) (all : Members) → line ≡ 123 ∷ rest → IsRest false no_members rest all → value_of line ≡ Some (object all)
unfolding print_spaced ArePrintable
line_read line rest all is r =
    let ps : Spaced = ([], begin_object) ∷ r.tokens in
    let printed : line ≡ print_spaced false ps = is ∙ ap (λ x. 123 ∷ x) r.is in
    let utf8 : IsUtf8 line = subst IsUtf8 (sym is) (IsUtf8-append (123 ∷ []) rest (IsUtf8-are_ascii _ refl) r.utf8) in
    value_of_utf8 line line (object all) refl utf8
    (ap (λ x. whole (value 127 (tokens x))) printed ∙ ap (λ ts. whole (value 127 ts)) (tokens-print_spaced ps (tt, r.gaps) (tt, r.printable))
    ∙ object_read (unspaced r.tokens) all (r.reading (length (unspaced r.tokens)) (omega arith)))

closed : (s rest : List ℕ) → escape s ≡ s → (escape s ++ 34 ∷ []) ++ rest ≡ s ++ 34 ∷ rest
closed s rest e = ap (λ x. (x ++ 34 ∷ []) ++ rest) e ∙ append_assoc s (34 ∷ []) rest

key_closed : (k rest : List ℕ) → escape k ≡ k → ((escape k ++ 34 ∷ []) ++ 58 ∷ []) ++ rest ≡ k ++ 34 ∷ 58 ∷ rest
key_closed k rest e = append_assoc (escape k ++ 34 ∷ []) (58 ∷ []) rest ∙ closed k (58 ∷ rest) e

joint_utf8 : (b : Bool) (gap : List ℕ) → IsGap gap → IsUtf8 (joint b gap)
joint_utf8 true gap h = IsUtf8-append (44 ∷ []) gap (IsUtf8-are_ascii _ refl) (IsUtf8-IsGap gap h)
joint_utf8 false gap h = IsUtf8-IsGap gap h

-- one part before a rest
module _ (k : List ℕ) (t : Token) (d : Data) (vt : List ℕ) (named : IsTrue (is_name k)) (text_is : token_text t ≡ vt) (ended : ends t ≡ true)
    (printed : IsPrintable t) (vu : IsUtf8 vt) (read : (ts : List Token) → converted of_json (value 126 (t ∷ ts)) ≡ Some (d, ts)) where
  part_text : (b : Bool) (gap between rest : List ℕ) (ps : Spaced) → rest ≡ print_spaced true ps
      → joint b gap ++ 34 ∷ (k ++ 34 ∷ 58 ∷ (between ++ (vt ++ rest))) ≡ print_spaced b ((gap, key k) ∷ (between, t) ∷ ps)
  unfolding print_spaced
  part_text b gap between rest ps is =
      append_assoc (separator b (key k)) gap _
      ∙ ap (λ x. separator b (key k) ++ (gap ++ 34 ∷ x))
      (ap (λ x. k ++ 34 ∷ 58 ∷ (between ++ (vt ++ x))) is
      ∙ ap (λ x. k ++ 34 ∷ 58 ∷ (between ++ (x ++ print_spaced true ps))) (sym text_is)
      ∙ ap (λ x. k ++ 34 ∷ 58 ∷ (between ++ (token_text t ++ print_spaced x ps))) (sym ended)
      ∙ sym (key_closed k _ (name_stays k named)))

  part_utf8 : (b : Bool) (gap between rest : List ℕ) → IsGap gap → IsGap between → IsUtf8 rest
      → IsUtf8 (joint b gap ++ 34 ∷ (k ++ 34 ∷ 58 ∷ (between ++ (vt ++ rest))))
  part_utf8 b gap between rest g h u =
      IsUtf8-append (joint b gap) _ (joint_utf8 b gap g)
      (IsUtf8-append (34 ∷ []) _ (IsUtf8-are_ascii _ refl)
      (IsUtf8-append k _ (name_utf8 k named)
      (IsUtf8-append (34 ∷ 58 ∷ []) _ (IsUtf8-are_ascii _ refl) (IsUtf8-append between _ (IsUtf8-IsGap between h) (IsUtf8-append vt rest vu u)))))

  part_read : (old new : Known) (text rest : List ℕ) → text ≡ vt ++ rest → known_members new ≡ put k d (known_members old) → ReadsValue k text old new rest
  unfolding ArePrintable
  part_read old new text rest is more between h b gap all g r = record {
    tokens = (gap, key k) ∷ (between, t) ∷ r.tokens;
    is = ap (λ x. joint b gap ++ 34 ∷ (k ++ 34 ∷ 58 ∷ (between ++ x))) is ∙ part_text b gap between rest r.tokens r.is;
    gaps = (g, (h, r.gaps));
    printable = (tt, (printed, r.printable));
    utf8 = subst (λ x. IsUtf8 (joint b gap ++ 34 ∷ (k ++ 34 ∷ 58 ∷ (between ++ x)))) (sym is) (part_utf8 b gap between rest g h r.utf8);
    reading = λ n enough. member_read (value 126) (known_members old) n k _ (t ∷ unspaced r.tokens) (unspaced r.tokens) d (omega arith) refl
        (read (unspaced r.tokens))
        ∙ ap (λ ms. converted (λ js. of_members js ms) (members (value 126) (n - 1) (unspaced r.tokens))) (sym more) ∙ r.reading (n - 1) (omega arith);
  }

name_read : (k s : List ℕ) (old new : Known) (text rest : List ℕ) → IsTrue (is_name k) → IsTrue (is_name s) → text ≡ 34 ∷ (s ++ 34 ∷ rest)
    → known_members new ≡ put k (v.string s) (known_members old) → ReadsValue k text old new rest
name_read k s old new text rest named form is more =
    part_read k (string s) (v.string s) (34 ∷ (s ++ 34 ∷ [])) named (ap (λ x. 34 ∷ (x ++ 34 ∷ [])) (name_stays s form)) refl tt
    (IsUtf8-append (34 ∷ []) _ (IsUtf8-are_ascii _ refl) (IsUtf8-append s (34 ∷ []) (name_utf8 s form) (IsUtf8-are_ascii _ refl)))
    (λ ts. ap (converted of_json) (value_is 126 (string s ∷ ts))) old new text rest
    (is ∙ ap (λ x. 34 ∷ x) (sym (append_assoc s (34 ∷ []) rest))) more

number_read : (k : List ℕ) (n : ℕ) (old new : Known) (text rest : List ℕ) → IsTrue (is_name k) → n < 65536 → text ≡ decimal n ++ rest
    → known_members new ≡ put k (number_data n) (known_members old) → ReadsValue k text old new rest
number_read k n old new text rest named small is more =
    let h : n < 2 ^ 64 = omega arith in
    part_read k (number (decimal n)) (number_data n) (decimal n) named refl refl (IsNumber-decimal n h)
    (IsUtf8-from_ascii (decimal n) (IsAscii-decimal n h))
    (λ ts. ap (converted of_json) (value_is 126 (number (decimal n) ∷ ts))
    ∙ ap (λ o. option_map (λ d. (d, ts)) (option_map v.number o)) (number_of-decimal n h)) old new text rest is more

none : {A : Type 0} (o : Option A) → is_some o ≡ false → o ≡ None
none o h = grind arith

-- ---- a part at each key

same : (a b c d e : Option Data) (k : Known) → a ≡ option_map number_data k.case → b ≡ option_map (λ x. v.string (word x)) k.act
    → c ≡ option_map number_data k.lane → d ≡ option_map v.string k.step → e ≡ option_map v.string k.user → at_keys a b c d e ≡ known_members k
same a b c d e k h1 h2 h3 h4 h5 = rw (h1, h2, h3, h4, h5) refl

word_form : (a : Act) → IsTrue (is_name (word a))
unfolding is_name
word_form a = grind arith

module _ (old : Known) (text rest : List ℕ) where
  abbrev at_case : Option Data
  at_case = option_map number_data old.case

  abbrev at_do : Option Data
  at_do = option_map (λ x. v.string (word x)) old.act

  abbrev at_lane : Option Data
  at_lane = option_map number_data old.lane

  abbrev at_step : Option Data
  at_step = option_map v.string old.step

  abbrev at_user : Option Data
  at_user = option_map v.string old.user

  pub act_read : (a : Act) → is_some old.act ≡ false → text ≡ 34 ∷ (word a ++ 34 ∷ rest) → ReadsValue (codes "do") text old (record old { act = Some a }) rest
  unfolding is_name
  act_read a h is =
      name_read (codes "do") (word a) old (record old { act = Some a }) text rest refl (word_form a) is
      (sym (put_do at_case None at_lane at_step at_user (v.string (word a)))
      ∙ ap (λ o. put (codes "do") (v.string (word a)) (at_keys at_case (option_map (λ x. v.string (word x)) o) at_lane at_step at_user)) (sym (none old.act h)))

  pub case_read : (n : ℕ) → is_some old.case ≡ false → n < 65536 → text ≡ decimal n ++ rest
      → ReadsValue case text old (record old { case = Some n }) rest
  unfolding is_name
  case_read n h small is =
      number_read case n old (record old { case = Some n }) text rest refl small is
      (sym (put_case None at_do at_lane at_step at_user (number_data n))
      ∙ ap (λ o. put case (number_data n) (at_keys (option_map number_data o) at_do at_lane at_step at_user)) (sym (none old.case h)))

  pub lane_read : (n : ℕ) → is_some old.lane ≡ false → n < 65536 → text ≡ decimal n ++ rest
      → ReadsValue (codes "lane") text old (record old { lane = Some n }) rest
  unfolding is_name
  lane_read n h small is =
      number_read (codes "lane") n old (record old { lane = Some n }) text rest refl small is
      (sym (put_lane at_case at_do None at_step at_user (number_data n))
      ∙ ap (λ o. put (codes "lane") (number_data n) (at_keys at_case at_do (option_map number_data o) at_step at_user)) (sym (none old.lane h)))

  pub step_read : (s : List ℕ) → is_some old.step ≡ false → IsTrue (is_name s) → text ≡ 34 ∷ (s ++ 34 ∷ rest)
      → ReadsValue step text old (record old { step = Some s }) rest
  unfolding is_name
  step_read s h form is =
      name_read step s old (record old { step = Some s }) text rest refl form is
      (sym (put_step at_case at_do at_lane None at_user (v.string s))
      ∙ ap (λ o. put step (v.string s) (at_keys at_case at_do at_lane (option_map v.string o) at_user)) (sym (none old.step h)))

  pub user_read : (s : List ℕ) → is_some old.user ≡ false → IsTrue (is_name s) → text ≡ 34 ∷ (s ++ 34 ∷ rest)
      → ReadsValue user text old (record old { user = Some s }) rest
  unfolding is_name
  user_read s h form is =
      name_read user s old (record old { user = Some s }) text rest refl form is
      (sym (put_user at_case at_do at_lane at_step None (v.string s))
      ∙ ap (λ o. put user (v.string s) (at_keys at_case at_do at_lane at_step (option_map v.string o))) (sym (none old.user h)))

-- ---- what the members ask

abbrev pub asks : ℕ → Request → Asked
asks l r = record { lane = l; ask = ask.Request r }

requested : (a : Act) (lanes n : ℕ) (s u : List ℕ) (o : Option ℕ) (l : ℕ) → n ≤ 65535 → IsTrue (is_name s) → IsTrue (is_name u) → lane_known lanes o ≡ Some l
    → request_in lanes (object (at_keys (Some (number_data n)) (Some (v.string (word a))) (option_map number_data o) (Some (v.string s)) (Some (v.string u))))
    ≡ Ok (asks l (request_of a n s u))
unfolding request_in request_by
requested a lanes n s u o l h hs hu is = grind (arith, le-leb)

pub known_asked : (k : Known) (lanes : ℕ) (a : Act) (n : ℕ) (s u : List ℕ) (l : ℕ) → k.act ≡ Some a → k.case ≡ Some n → k.step ≡ Some s → k.user ≡ Some u
    → n < 65536 → IsTrue (is_name s) → IsTrue (is_name u) → lane_known lanes k.lane ≡ Some l
    → asks l (request_of a n s u) ≡ asked (request_in lanes (object (known_members k)))
known_asked k lanes a n s u l is_act is_case is_step is_user small hs hu is = grind (arith, requested, same)

pub line_asked : (lanes : ℕ) (line : List ℕ) (ms : Members) → value_of line ≡ Some (object ms) → asked (request_in lanes (object ms)) ≡ asked_of lanes line
unfolding asked_of
line_asked lanes line ms read = ap (λ o. asked (or_fault o Syntax >>= request_in lanes)) (sym read)

-- ---- a blank at the front

pub blank_first : (rest : List ℕ) → 0 < length rest → get_or rest 0 0 ≡ 32 → rest ≡ 32 ∷ take (length rest - 1) (drop 1 rest)
blank_first rest h e = grind (arith, take_all)

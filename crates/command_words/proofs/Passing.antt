-- What a parse that succeeds finds, by the definitions.
use Rattle.std.proofs.Common.{◌≡◌, ◌∙◌, ◌<◌, Bool, true, false, refl, sym, ap, arith, inl, inr, length, List, Option, [], ◌∷◌}
use Rattle.std.proofs.Common.{Some, None, true≢false, ◌+◌, ℕ, map, drop, fold, get_or}
use Rattle.std.specs.List.{All, Any}
use Rattle.std.specs.Borrow.{Bor}
use Rattle.std.specs.Prelude.{option_and_then}
use Rattle.std.proofs.lemmas.Bool.{cases_lt, ne_eqb, not-true}
use Rattle.std.proofs.lemmas.List.{drop_more, get_or-map, get_or_default, length-map}
use Rattle.std.proofs.lemmas.List.Folds.{list_all-map}
use Rattle.std.proofs.lemmas.List.Sums.{AllPass-from_list_all}
use Rattle.std.proofs.lemmas.List.Elements.{All-map, All-weaker}
use Rattle.clap.specs.Words.{App, Row, Rule, Text, app_of, args_of, fault_of, found_of, groups_of, is_simple, is_simple_and_free}
use Rattle.clap.specs.Words.{rows_of, rule_of, with_rule}
use Rattle.clap.specs.Words.{BuildsTo, IsParsedFrom, NamesNoGroup, HasKind, HasMatchesOf, IsAmong, Kinds, kind_of}
use Rattle.clap.specs.Facts.{Entry, EntryPasses, PassesArg, ValuesPass}
use Rattle.clap.specs.Walk.{is_empty, is_simple_arg, row_of, rules_of, texts}
use Rattle.clap.specs.declared.builder.arg.Arg.{Arg}
use Rattle.clap.specs.declared.builder.command.Command.{Command}
use Rattle.clap.specs.declared.builder.command.Command.TheViews.{out-Command as fields_of}
use Rattle.clap.specs.declared.error.Error.{Error}
use Rattle.clap.specs.declared.error.kind.ErrorKind.TheVariants.{OutOfMemory}
use Rattle.clap.specs.declared.parser.matches.ArgMatches.{ArgMatches}
use Rattle.clap.specs.declared.parser.matches.Found.{Found as Entries}
use Rattle.clap.proofs.WalkLemmas.{both}
use Rattle.command_words.specs.declared.arguments.Word.{Word}
use Rattle.command_words.specs.Forms.{rule_for}
use Rattle.command_words.specs.Laws.Words.{Command as Asked, command_by, found}
use Rattle.command_words.specs.Finding.{IsBuiltOf, KeepsRule, PassesIn, RowPasses, TakesValue, rows_in}

not_empty : {X : Type 0} (x : X) (xs : List X) → is_empty (x ∷ xs) ≡ false
not_empty x xs = ne_eqb _ _ (λ e. let lots : length (x ∷ xs) ≡ 0 = e in omega arith)

no_elements : {X : Type 0} (xs : List X) → is_empty xs ≡ true → xs ≡ []
no_elements [] e = refl
no_elements (x ∷ xs) e = absurd (true≢false (sym e ∙ not_empty x xs))

-- ---- from the arguments of a command to its rules

any_rule : (P : Rule → Type 0) (xs : List Arg) → Any (λ a. P (rule_of a)) xs → Any P (map rule_of xs)
any_rule P xs any = grind (arith, length-map, get_or-map)

values_pass : (c : Command) (name : Text) (vals : List (Bor Text)) → All (λ v. PassesArg c name v.now) vals
    → All (λ value. Any (TakesValue name value) (rules_of c)) (texts vals)
values_pass c name vals all = All-map (λ value. Any (TakesValue name value) (rules_of c)) (λ v. v.now) vals
    (All-weaker (λ v. PassesArg c name v.now) (λ v. Any (TakesValue name v.now) (rules_of c))
    (λ v h. any_rule (TakesValue name v.now) (args_of c) h) vals all)

row_passes : (c : Command) → groups_of c ≡ [] → (e : Entry) → EntryPasses c e → RowPasses (rules_of c) (row_of e)
row_passes c no_groups e pass = go e.1.is_group refl
  where
    go : (g : Bool) → e.1.is_group ≡ g → RowPasses (rules_of c) (row_of e)
    go true is = elim (pass.3 is) [
      | inl empty ↦ inl empty
      | inr lots ↦
          let bad : 0 < 0 = rw no_groups at lots in
          absurd (omega arith)
    ]
    go false is = elim pass.0 [
      | inl g ↦ absurd (true≢false (sym g ∙ is))
      | inr vals ↦ elim pass.4 [
        | inl g ↦ absurd (true≢false (sym g ∙ is))
        | inr read ↦ inr (values_pass c e.0.now e.1.vals.items vals, any_rule _ (args_of c) read)
      ]
    ]

rows_pass : (c : Command) (f : Entries) → groups_of c ≡ [] → ValuesPass c f → All (RowPasses (rules_of c)) (rows_of f)
rows_pass c f no_groups pass = All-map (RowPasses (rules_of c)) row_of f.entries.items
    (All-weaker (EntryPasses c) (λ e. RowPasses (rules_of c) (row_of e)) (row_passes c no_groups) f.entries.items pass)

-- ---- a plain command

plain_before : (a : App) → is_simple_and_free a ≡ true → a.top.is_plain ≡ true
plain_before a e = grind (arith, both)

no_groups : (c : Command) → (app_of c).top.is_plain ≡ true → groups_of c ≡ []
no_groups c e = no_elements (groups_of c) (both _ _ e).0

no_globals : (c : Command) → (app_of c).top.is_plain ≡ true → (fields_of c).has_globals ≡ false
no_globals c e = not-true _ (both _ _ (both _ _ (both _ _ e).1).1).0

-- ---- the command, once it is built

simple : (a : App) → is_simple_and_free a ≡ true → is_simple a ≡ true
simple a e = (both _ _ e).0

names_no_group : (c : Command) → is_simple_and_free (app_of c) ≡ true → NamesNoGroup c
names_no_group c e =
    let rules = (both _ _ (both _ _ (simple (app_of c) e)).0).0 in
    let args = sym (list_all-map (λ (r : Rule). r.is_simple) rule_of (args_of c)) ∙ (both _ _ rules).1 in
    All-weaker (λ a. is_simple_arg a ≡ true) (λ a. a.groups.items ≡ [])
    (λ a h. no_elements a.groups.items (both _ _ (both _ _ (both _ _ h).1).1).0)
    (args_of c) (AllPass-from_list_all is_simple_arg (args_of c) args)

all_at : {X : Type 0} (P : X → Type 0) (xs : List X) → ((k : ℕ) (d : X) → k < length xs → P (get_or xs k d)) → All P xs
all_at P xs h = grind arith

built_of : (old new : Command) → BuildsTo old new → (k : ℕ) (d : Arg) → k < length (args_of new)
    → IsBuiltOf (rules_of old) (rule_of (get_or (args_of new) k d))
built_of old new b k d lt = elim (cases_lt k (length (args_of old))) [
  | inl own ↦
      let new_arg = get_or (args_of new) k d in
      let same = (b.kept k d own).1 in
      inr (any_rule (λ r. KeepsRule r (rule_of new_arg)) (args_of old) (
        k,
        get_or (args_of old) k d,
        own,
        get_or_default (args_of old) k (get_or (args_of old) k d) d own,
        record { id = ap (λ (t : Bor Text). t.now) same.id; parser = same.parser },
      ))
  | inr flag ↦ inl (b.extra k d flag lt)
]

-- ---- a parse that succeeds

pub passes : (c : Command) (m : ArgMatches) → is_simple_and_free (app_of c) ≡ true → IsParsedFrom c m → PassesIn (app_of c) (rows_in m)
passes c m free p =
    let plain = plain_before (app_of c) free in
    let groups = (p.from.same_groups (names_no_group c free)).1 ∙ no_groups c plain in
    record {
      rules = rules_of p.built;
      are = All-map (IsBuiltOf (rules_of c)) rule_of (args_of p.built)
          (all_at (λ a. IsBuiltOf (rules_of c) (rule_of a)) (args_of p.built) (built_of c p.built p.from));
      pass = rows_pass p.built (found_of m) groups (p.parsed (p.from.globals ∙ no_globals c plain)).values;
    }

-- ---- what is found

pub is_found : (a : App) (words : List Text) (m : ArgMatches) → is_simple_and_free a ≡ true → HasMatchesOf a words m
    → fault_of a words ≡ [] → Some (rows_in m) ≡ found a words
unfolding found
is_found a words m free matches none = grind (arith, simple)

among : (k : Kinds) (e : Error) → IsAmong (kind_of e) k → is_empty k ≡ false
among [] e h = absurd h
among (x ∷ xs) e h = not_empty x xs

pub none_found : (a : App) (words : List Text) (e : Error) → HasKind (fault_of a words) e → (kind_of e ≡ OutOfMemory → ⊥)
    → None ≡ found a words
unfolding found
none_found a words e has other = grind (arith, among)

-- the command that is meant, by what is found
pub command_is : (a b : App) (words : List Text) (o : Option (List Row)) (g : List Row → Option Asked) (c : Option Asked) → a ≡ b
    → o ≡ found a words → c ≡ option_and_then g o → c ≡ command_by b g words
command_is a b words o g c same is by = grind arith

-- a command with one word more
pub one_more : (a b end : App) (r : Rule) (ws : List Word) (i : ℕ) (w : Word) → i < length ws → b ≡ with_rule a r → r ≡ rule_for (get_or ws i w)
    → fold with_rule a (map rule_for (drop i ws)) ≡ end → fold with_rule b (map rule_for (drop (i + 1) ws)) ≡ end
one_more a b end r ws i w lt adds is done = grind (arith, drop_more)

-- A policy is read from the document that it is written as.
use Rattle.std.proofs.Common.{◌≡◌, ℕ, zero, suc, ◌<◌, Bool, true, false, List, [], ◌∷◌, length, refl, ap, ◌∙◌, ◌⊎◌, inl, inr, arith, codes, Some, Ok}
use Rattle.std.proofs.Common.{slice_index_or}
use Rattle.policy_reader.proofs.Prints.{AllByRecursion, Members, get_member, OrderIsDecided, PolicyShape, WorkflowShape, no_workflow, any_below, ◌>>=◌, File}
use Rattle.policy_reader.proofs.Prints.{written_format, needs_second, flow_at, file_keys, IsPrintable, name_at, names_array, users_data}
use Rattle.policy_reader.proofs.Prints.{relations_data}
use Rattle.policy_reader.proofs.Prints.{flows_data, IsNamedPolicy, Format, format_number, string, integer}
use Rattle.policy_reader.specs.Laws.Grammars.{today}
use Rattle.policy_reader.specs.Parts.{value_at, text_in, name_in, text_name_in, no_others, known_key}
use Rattle.policy_reader.specs.Files.{document_in, format_of, admin_of, start_over, related_over, staff_of, start_with, start_named, start_of, rest_of}
use Rattle.policy_reader.specs.Files.{policy_by, policy_in, policy_of_file}
use Rattle.policy_reader.specs.Documents.{document_of, table_of}
use Rattle.std.specs.Prelude.{pos}
use Rattle.policy_reader.proofs.Readings.{form_at, number_back}
use Rattle.policy_reader.proofs.RostersAgain.{roles_back, roster_back}
use Rattle.policy_reader.proofs.RelationsAgain.{relations_back}
use Rattle.policy_reader.proofs.FlowsAgain.{flows_back}
use Rattle.policy_reader.proofs.RulesAgain.{HaveForms}
use Rattle.policy_reader.specs.declared.format.Format.TheVariants.{First}
use Rattle.constraint_forms.specs.declared.rule.Rule.{Rule}
use Rattle.policy_book.proofs.Counting.{any_below-at}
use Rattle.basics.proofs.Booleans.{bool_cases, differ, not_false, not_true, or_false}

active_at : (ws : List WorkflowShape) (f : ℕ) → AllByRecursion (λ w. w.retired ≡ false) ws → f < length ws → (slice_index_or ws f no_workflow).retired ≡ false
active_at [] f h lt = absurd (omega (arith, lt))
active_at (w ∷ ws) zero h lt = h.0
active_at (w ∷ ws) (suc f) h lt = active_at ws f h.1 (omega (arith, lt))

some_user : (n : ℕ) (test : ℕ → Bool) → any_below n test ≡ true → 0 < n
some_user n test h = grind arith

-- where the first format lacks no rule's form, it has each
first_known : (rules : List Rule) → needs_second rules ≡ false → HaveForms First rules
first_known [] none k r is = absurd (cc)
first_known (x ∷ rules) none zero r is = grind (arith, not_false, or_false)
first_known (x ∷ rules) none (suc k) r is = first_known rules (or_false _ _ none).1 k r is

-- a policy's format has the forms of its rules
forms_known : (p : PolicyShape) (f : ℕ) → f < length p.flows → HaveForms (written_format p) (flow_at p f).rules
forms_known p f lt = at (bool_cases (any_below (length p.flows) test))
  where
    test : ℕ → Bool
    test g = needs_second (flow_at p g).rules

    at : (any_below (length p.flows) test ≡ true) ⊎ (any_below (length p.flows) test ≡ false) → HaveForms (written_format p) (flow_at p f).rules
    at (inl some) = rw some (λ k r is. refl)
    at (inr none) = rw none (first_known (flow_at p f).rules
        (not_true (test f) (λ here. differ (any_below (length p.flows) test) (any_below-at (length p.flows) f test lt here) none)))

module _ (decided : OrderIsDecided) (p : PolicyShape) (h : IsNamedPolicy p) (is : IsPrintable p) where
  abbrev doc : Members
  doc = document_of p

  admin_back : admin_of doc ≡ Ok (name_at p.roster.roles p.admin)
  unfolding admin_of value_at text_name_in text_in name_in document_of
  admin_back = rw (form_at p.roster.roles p.admin h.roles h.sound.admin) refl

  -- the document with another format
  abbrev doc_with : Format → Members
  doc_with format = table_of (
      (codes "admin", string (name_at p.roster.roles p.admin))
      ∷ (codes "flows", flows_data p)
      ∷ (codes "format", integer (pos (format_number format)))
      ∷ (codes "relations", relations_data p.roster.users p.relations)
      ∷ (codes "roles", names_array p.roster.roles)
      ∷ (codes "users", users_data p.roster)
      ∷ [])

  format_back : (format : Format) → (format_of today (doc_with format) ≡ Ok format) × (no_others File 0 (file_keys format) (doc_with format) ≡ Ok tt)
  unfolding format_of value_at no_others known_key
  format_back format = grind arith

  -- what stands at the keys
  written : (format_of today doc ≡ Ok (written_format p)) × (no_others File 0 (file_keys (written_format p)) doc ≡ Ok tt) ×
      (get_member (codes "users") doc ≡ Some (users_data p.roster))
      × (get_member (codes "roles") doc ≡ Some (names_array p.roster.roles)) ×
      (get_member (codes "relations") doc ≡ Some (relations_data p.roster.users p.relations)) × (get_member (codes "flows") doc ≡ Some (flows_data p))
  unfolding document_of
  written = let known = format_back (written_format p) in (known.0, known.1, refl, refl, refl, refl)

  start_back : start_of today doc ≡ Ok (record p { flow_names = []; flows = [] })
  unfolding start_of start_named start_with staff_of start_over related_over
  start_back = rw (
    admin_back,
    roles_back doc p.roster.roles h.roles (omega (arith, h.sound.admin)) h.sound.roles written.3,
    number_back File 0 p.roster.roles p.admin h.roles h.sound.admin,
    roster_back p.roster h.roster h.roles h.users doc is.begun.users (some_user (length p.roster.users) _ is.begun.admin) written.2,
    is.begun.admin,
    relations_back p.roster.users p.relations h.users h.relations h.sound.related h.related doc is.begun.relations written.4,
  ) refl

  policy_back : policy_in today doc ≡ Ok p
  unfolding policy_in rest_of
  policy_back = rw (
    written.0,
    start_back,
    flows_back decided p h.roles h.related h.flow_names h.sound.named h.flows h.sound.flows (λ f lt. active_at p.flows f is.active lt) (written_format p)
        (forms_known p) doc is.flows is.some h.sound.few written.5,
    written.1,
  ) refl

  -- a policy that can be printed is read from what it is written as
  pub file_back : (text : List ℕ) → document_in text ≡ Ok doc → policy_of_file text ≡ Ok p
  unfolding policy_by
  file_back text written = ap (λ r. r >>= policy_in today) written ∙ policy_back

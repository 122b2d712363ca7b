-- Entries and the journal may be handed to other threads and lent to them.
use denote.Param.Send.{IsSend, IsSync, sendable}
use denote.Param.SendFields.{FieldsHave, VariantsHave, declared_send, declared_sync, variants_send, variants_sync}
use denote.RattleType.{RattleType}
use denote.Struct.Field.{Field}
use denote.Struct.Declared as declared
use denote.Enum.Declared as enum
use mathlib.Core.List.{List, [], ◌∷◌}
use denote.Hole.{as_row}
use Rattle.std.proofs.Crossing.{crosses}
use Rattle.basics.specs.contracts.list.List as Items
use Rattle.basics.specs.contracts.log.Log as Log
use Rattle.basics.specs.contracts.shared.Shared as Shared
use Rattle.wf_names.specs.contracts.ids.CaseId as CaseId
use Rattle.wf_names.specs.contracts.ids.FlowId as FlowId
use Rattle.wf_names.specs.contracts.ids.RoleId as RoleId
use Rattle.wf_names.specs.contracts.ids.StepId as StepId
use Rattle.wf_names.specs.contracts.ids.UserId as UserId
use Rattle.wf_names.specs.contracts.states.StepState as StepState
use Rattle.constraint_forms.specs.contracts.plan.Plan as Plan
use Rattle.refutation_tree.specs.contracts.tree.Tree as Tree
use Rattle.refutation_tree.proofs.tree.Branches.TheLaws.TheKnot as knot
use Rattle.wf_talk.specs.contracts.edit.Missing as Missing
use Rattle.wf_talk.specs.contracts.reply.Denial as Denial
use Rattle.wf_talk.specs.contracts.reply.Face as Face
use Rattle.wf_talk.specs.contracts.reply.Reply as Reply
use Rattle.wf_talk.specs.contracts.reply.WorkItem as WorkItem
use Rattle.wf_talk.specs.contracts.request.Ask as Ask
use Rattle.wf_talk.specs.contracts.request.Bad as Bad
use Rattle.wf_talk.specs.contracts.entry.Entry as Entry
use Rattle.wf_talk.proofs.reply.Face.TheSendSync as faces
use Rattle.wf_talk.proofs.request.Ask.TheSendSync as asks

-- a type may be handed to other threads and lent to them
abbrev Crosses : RattleType → Type 0
Crosses R = IsSend R × IsSync R

fields_apart : (Fs : List Field) → FieldsHave Crosses Fs → FieldsHave IsSend Fs × FieldsHave IsSync Fs
fields_apart [] each = (tt, tt)
fields_apart (F ∷ Fs) each = let rest = fields_apart Fs each.1 in ((each.0.0, rest.0), (each.0.1, rest.1))

variants_apart : (Fss : List (List Field)) → VariantsHave Crosses Fss → VariantsHave IsSend Fss × VariantsHave IsSync Fss
variants_apart [] each = (tt, tt)
variants_apart (Fs ∷ Fss) each =
    let first = fields_apart Fs each.0 in
    let rest = variants_apart Fss each.1 in
    ((first.0, rest.0), (first.1, rest.1))

-- a struct crosses where each field does, and an enum where each field of each variant does
both_fields : (T : declared.Declared) → FieldsHave Crosses T.parts → Crosses (declared.row T)
both_fields T each = let apart = fields_apart T.parts each in (declared_send T apart.0, declared_sync T apart.1)

both_variants : (N : enum.Record) → VariantsHave Crosses N.parts → Crosses (enum.row (enum.declared N))
both_variants N each = let apart = variants_apart N.parts each in (variants_send N apart.0, variants_sync N apart.1)

case_crosses : Crosses (as_row CaseId.the_field)
case_crosses = search (sendable, crosses) depth 20

flow_crosses : Crosses (as_row FlowId.the_field)
flow_crosses = search (sendable, crosses) depth 20

roles_crosses : Crosses (as_row (Items.the_field RoleId.the_row))
roles_crosses = search (sendable, crosses) depth 20

work_crosses : Crosses (as_row (Items.the_field WorkItem.the_row))
work_crosses = search (sendable, crosses) depth 20

cases_crosses : Crosses (as_row (Items.the_field CaseId.the_row))
cases_crosses = search (sendable, crosses) depth 20

step_crosses : Crosses (as_row StepId.the_field)
step_crosses = search (sendable, crosses) depth 20

user_crosses : Crosses (as_row UserId.the_field)
user_crosses = search (sendable, crosses) depth 20

state_crosses : Crosses (as_row StepState.the_field)
state_crosses = search (sendable, crosses) depth 20

missing_crosses : Crosses (as_row Missing.the_field)
missing_crosses = search (sendable, crosses) depth 20

plan_crosses : Crosses (as_row Plan.the_field)
plan_crosses = search (sendable, crosses) depth 20

tree_crosses : Crosses (as_row (Shared.the_field Tree.the_row))
tree_crosses = search (sendable, crosses, knot.crosses) depth 30 fits 20000

face_crosses : Crosses (as_row Face.the_field)
face_crosses = search (faces.the_field_send, faces.the_field_sync, sendable, crosses) depth 20

bad_crosses : Crosses (as_row Bad.the_field)
bad_crosses = search (sendable, crosses) depth 20

ask_crosses : Crosses (as_row Ask.the_field)
ask_crosses = search (asks.the_field_send, asks.the_field_sync, sendable, crosses) depth 20

denial_crosses : Crosses Denial.the_row
denial_crosses =
    both_variants Denial.enum (
      tt,
      (
        tt,
        (
          tt,
          (
            (flow_crosses, (tree_crosses, tt)),
            (
              tt,
              (
                tt,
                (
                  tt,
                  (
                    tt,
                    (
                      (user_crosses, tt),
                      (
                        (flow_crosses, (step_crosses, tt)),
                        (
                          (roles_crosses, tt),
                          (
                            (search (sendable, crosses), tt),
                            (
                              (flow_crosses, (tree_crosses, tt)),
                              (
                                (state_crosses, tt),
                                (tt, ((missing_crosses, tt), (tt, (tt, (tt, (tt, ((case_crosses, (flow_crosses, (tree_crosses, tt))), tt))))))),
                              ),
                            ),
                          ),
                        ),
                      ),
                    ),
                  ),
                ),
              ),
            ),
          ),
        ),
      ),
    )

reply_crosses : Crosses Reply.the_row
reply_crosses =
    both_variants Reply.enum (
      (plan_crosses, tt),
      (
        (search (sendable, crosses), tt),
        (
          tt,
          (
            tt,
            (
              (case_crosses, (plan_crosses, tt)),
              (
                tt,
                (
                  (search (sendable, crosses), tt),
                  (
                    (face_crosses, tt),
                    (
                      (work_crosses, tt),
                      (
                        (cases_crosses, tt),
                        ((denial_crosses, tt), ((search (sendable, crosses), (search (sendable, crosses), tt)), (tt, ((bad_crosses, tt), tt)))),
                      ),
                    ),
                  ),
                ),
              ),
            ),
          ),
        ),
      ),
    )

entry_crosses : Crosses Entry.the_row
entry_crosses =
    both_fields Entry.the_type (search (sendable, crosses), (search (sendable, crosses), (search (sendable, crosses), (ask_crosses, (reply_crosses, tt)))))

entry_send : IsSend Entry.the_row
entry_send = entry_crosses.0

pub journal_send : IsSend (Log.the_row Entry.the_row)
journal_send = search (sendable, crosses, entry_send) depth 20

use Rattle.wf_commands.proofs.Plain.{plain_text}
use Rattle.wf_commands.proofs.cnf_answer.plan_array.Goals as goal

pub returns : goal.returns
returns c = plain_text c.args.users.now.names c.args.plan.now _ _ c.in_ok-value.ensures c.in_ok-text.ensures.text

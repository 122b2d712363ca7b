-- Which case an entry is about.
use Rattle.std.specs.Prelude.{ℕ, Option, Some}
use Rattle.wf_talk.specs.declared.request.Ask.{Ask}
use Rattle.wf_talk.specs.declared.reply.Reply.{Reply}
use Rattle.wf_talk.specs.declared.reply.Reply.TheVariants as reply
use Rattle.wf_talk.specs.declared.reply.Denial.{Denial}
use Rattle.wf_talk.specs.declared.reply.Denial.TheVariants as denial
use Rattle.wf_talk.specs.Requests.{case_of_ask}

-- the case that a denial names, and else the one that was asked about
abbrev pub subject_of_denial : Ask → Denial → Option ℕ
subject_of_denial what (denial.Strands n f tree) = Some n
subject_of_denial what given = case_of_ask what

-- the case that was opened, the one that an edit would strand, else the one that was asked about
abbrev pub subject_of : Ask → Reply → Option ℕ
subject_of what (reply.Opened n plan) = Some n
subject_of what (reply.Denied given) = subject_of_denial what given
subject_of what given = case_of_ask what

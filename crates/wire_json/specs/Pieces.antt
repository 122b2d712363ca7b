-- Inside: the pieces in which entries and trees are written.
use Rattle.std.specs.Prelude.{ℕ, List, [], ◌∷◌, ◌++◌, codes, decimal}
use Rattle.json.specs.Print.{quoted}
use Rattle.serde_json.specs.Data.{Data}
use Rattle.serde_json.specs.Written.{compact_text}
use Rattle.wf_talk.specs.declared.entry.Entry.{Entry}
use Rattle.wf_talk.specs.declared.reply.Denial.{Denial}
use Rattle.wf_talk.specs.declared.reply.Denial.TheVariants as denial
use Rattle.wire_json.specs.Entries.{plan_data}

-- what stands before the reply
abbrev pub head_text : Entry → List ℕ
head_text e =
    123 ∷ (quoted (codes "at") ++ 58 ∷ (decimal e.at
    ++ 44 ∷ (quoted (codes "lane") ++ 58 ∷ (decimal e.lane
    ++ 44 ∷ (quoted (codes "line") ++ 58 ∷ (decimal e.line
    ++ 44 ∷ (quoted (codes "reply") ++ 58 ∷ [])))))))

-- how a line ends that gives a plan, from the plan's key on
abbrev pub plan_ending : List (List ℕ) → List ℕ → List ℕ
plan_ending users plan = codes "\"plan\":" ++ (compact_text (plan_data users plan) ++ codes "}}}\n")

-- a branch, whose user has a text behind it
abbrev pub pair_text : Data → List ℕ → List ℕ
pair_text user kid = 91 ∷ (compact_text user ++ 44 ∷ (kid ++ 93 ∷ []))

-- a denial that is a word alone; nothing for another
abbrev pub denial_word : Denial → List ℕ
denial_word denial.NoFlow = codes "\"no_flow\""
denial_word denial.Retired = codes "\"retired\""
denial_word denial.Full = codes "\"full\""
denial_word denial.NoCase = codes "\"no_case\""
denial_word denial.Closed = codes "\"closed\""
denial_word denial.NoStep = codes "\"no_step\""
denial_word denial.NoUser = codes "\"no_user\""
denial_word denial.NotAdmin = codes "\"not_admin\""
denial_word denial.Fixed = codes "\"fixed\""
denial_word denial.Already = codes "\"already\""
denial_word denial.Absent = codes "\"absent\""
denial_word denial.LastAdmin = codes "\"last_admin\""
denial_word told = []

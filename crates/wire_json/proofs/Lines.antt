-- The text of an entry.
use Rattle.std.proofs.Common.{◌≡◌, ℕ, List, [], ◌∷◌, ◌++◌, ap, ◌∙◌, codes, append_assoc, append-nil, arith}
use Rattle.std.specs.Prelude.{decimal}
use Rattle.json.specs.Print.{escape_byte}
use Rattle.serde_json.specs.Written.{compact_text}
use Rattle.policy_book.specs.Laws.Shapes.{PolicyShape}
use Rattle.wf_talk.specs.declared.entry.Entry.{Entry}
use Rattle.wf_talk.specs.declared.reply.Reply.{Reply}
use Rattle.wf_talk.specs.declared.reply.Reply.TheVariants as reply
use Rattle.wire_json.specs.Entries.{plan_data}
use Rattle.wire_json.specs.Pieces.{head_text, plan_ending}
use Rattle.wire_json.specs.Replies.{entry_text, reply_data}

-- two policies that write its reply alike write it alike
pub text_same : (p q : PolicyShape) (e : Entry) → reply_data q e.reply ≡ reply_data p e.reply → entry_text q e ≡ entry_text p e
unfolding entry_text
text_same p q e same = grind arith

-- ---- a line in pieces

pub line_split : (p : PolicyShape) (e : Entry) → entry_text p e ≡ head_text e ++ (compact_text (reply_data p e.reply) ++ 125 ∷ 10 ∷ [])
unfolding escape_byte entry_text
line_split p e = grind (arith, append_assoc)

-- what stands behind the head, at once
pub line_of : (p : PolicyShape) (e : Entry) (r : Reply) (t x0 x1 : List ℕ) → e.reply ≡ r → compact_text (reply_data p r) ++ 125 ∷ 10 ∷ [] ≡ t
    → x1 ≡ x0 ++ (head_text e ++ t) → x1 ≡ x0 ++ entry_text p e
line_of p e r t x0 x1 is same added = grind (arith, line_split)

-- the head, the reply, and the brace and the line end at once
pub line_in_three : (x0 x1 x2 x3 h r t : List ℕ) → x1 ≡ x0 ++ (h ++ []) → x2 ≡ x1 ++ r → x3 ≡ x2 ++ t → x3 ≡ x0 ++ (h ++ (r ++ t))
line_in_three x0 x1 x2 x3 h r t e1 e2 e3 = grind (arith, append-nil, append_assoc)

-- the head with what begins the reply, and the rest
pub line_in_two : (x0 x1 x2 h a b : List ℕ) → x1 ≡ x0 ++ (h ++ a) → x2 ≡ x1 ++ b → x2 ≡ x0 ++ (h ++ (a ++ b))
line_in_two x0 x1 x2 h a b e1 e2 = e2 ∙ ap (λ x. x ++ b) e1 ∙ append_assoc x0 (h ++ a) b ∙ ap (λ y. x0 ++ y) (append_assoc h a b)

-- the same, with a number and a comma between
pub line_in_four : (x0 x1 x2 x3 x4 h a n b : List ℕ) → x1 ≡ x0 ++ (h ++ a) → x2 ≡ x1 ++ n → x3 ≡ x2 ++ 44 ∷ [] → x4 ≡ x3 ++ b
    → x4 ≡ x0 ++ (h ++ (a ++ (n ++ 44 ∷ b)))
line_in_four x0 x1 x2 x3 x4 h a n b e1 e2 e3 e4 = rw (e4, e3, e2, e1) (simp append_assoc)

-- ---- replies that give a plan

braces : (d : List ℕ) → ((d ++ 125 ∷ []) ++ 125 ∷ []) ++ 125 ∷ 10 ∷ [] ≡ d ++ codes "}}}\n"
braces d = append_assoc (d ++ 125 ∷ []) (125 ∷ []) (125 ∷ 10 ∷ []) ∙ append_assoc d (125 ∷ []) (125 ∷ 125 ∷ 10 ∷ [])

pub granted_ends : (p : PolicyShape) (plan : List ℕ) →
    compact_text (reply_data p (reply.Granted plan)) ++ 125 ∷ 10 ∷ [] ≡ codes "{\"granted\":{" ++ plan_ending p.roster.users plan
unfolding escape_byte
granted_ends p plan = ap (λ x. codes "{\"granted\":{\"plan\":" ++ x) (braces (compact_text (plan_data p.roster.users plan)))

numbered : (n b d : List ℕ) → ((n ++ (b ++ (d ++ 125 ∷ []))) ++ 125 ∷ []) ++ 125 ∷ 10 ∷ [] ≡ n ++ (b ++ (d ++ codes "}}}\n"))
numbered n b d = simp append_assoc

pub opened_ends : (p : PolicyShape) (c : ℕ) (plan : List ℕ) → compact_text (reply_data p (reply.Opened c plan)) ++ 125 ∷ 10 ∷ []
    ≡ codes "{\"opened\":{\"case\":" ++ (decimal c ++ 44 ∷ plan_ending p.roster.users plan)
unfolding escape_byte
opened_ends p c plan =
    ap (λ x. codes "{\"opened\":{\"case\":" ++ x) (numbered (decimal c) (codes ",\"plan\":") (compact_text (plan_data p.roster.users plan)))

-- Inside: a policy that is written after some entries.
use Rattle.std.specs.Prelude.{◌≡◌, ℕ, Bool, List, length}
use Rattle.wf_talk.specs.declared.entry.Entry.{Entry}
use Rattle.case_story.specs.declared.session.Session.{Session}
use Rattle.case_story.specs.Sessions.{AreFirst, state_of}
use Rattle.case_story.specs.Printed.{WritesPolicy, has_retired, retired_lines}

-- the policy after the first n entries, and what a file cannot hold of it
pub record PrintsAfter (s : Session) (n : ℕ) (remarks : List ℕ) (less : Bool)
    (document : List ℕ) : Type 0 where
  pub entries : List Entry
  pub first : AreFirst s n entries
  pub remarked : let p = (state_of s entries).book.policy in
      remarks ≡ retired_lines p (length p.flows)
  pub lessened : less ≡ has_retired (state_of s entries).book.policy
  pub written : WritesPolicy (state_of s entries).book.policy document

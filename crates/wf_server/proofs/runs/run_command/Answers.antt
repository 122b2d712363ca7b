use Rattle.std.proofs.Common.{inl, inr}
use Rattle.wf_server.proofs.runs.run_command.Goals as goal

pub returns-in-Resume-clause-does : goal.returns-in-Resume-clause-does
returns-in-Resume-clause-does g c repeats = rw c.in-Resume.is (c.run_resume.ensures.resumes repeats)

pub returns-in-Serve-clause-once : goal.returns-in-Serve-clause-once
returns-in-Serve-clause-once g c = rw c.in-Serve.is (λ kept once. elim once [
  | inl serves ↦ c.run_serve.ensures.once serves
  | inr none ↦ c.run_serve.ensures.no_rounds none
])

use Rattle.wf_server.proofs.runs.run_once.Goals as goal

pub returns-in-Plan-clause-does : goal.returns-in-Plan-clause-does
returns-in-Plan-clause-does g c repeats = rw c.in-Plan.is c.answer_once.ensures.answers

pub returns-in-Resilience-clause-does : goal.returns-in-Resilience-clause-does
returns-in-Resilience-clause-does g c repeats = rw c.in-Resilience.is c.answer_once-in-Resilience.ensures.answers

use Rattle.std.proofs.Common.{subst, inr}
use Rattle.transcript_commands.specs.Start.{names_in}
use Rattle.case_story.specs.Sessions.{FailsRequests}
use Rattle.case_story.proofs.session.load_session.Goals as goal

pub returns-in-Err-load_texts-clause-gives : goal.returns-in-Err-load_texts-clause-gives
returns-in-Err-load_texts-clause-gives g c =
    inr (
      c.in-Ok.policy,
      (
        c.in-Ok.ensures.policy,
        subst (λ files. FailsRequests files (names_in c.args.files) c.in-Err-load_texts.fault) (λ i name. c.in-Ok.ensures.kept name i)
            c.in-Err-load_texts.ensures.fails,
      ),
    )

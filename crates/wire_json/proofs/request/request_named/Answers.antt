use Rattle.std.proofs.Common.{◌≡◌, Result, Some, sym, subst}
use Rattle.serde_json.specs.Data.{Data, Members}
use Rattle.basics.specs.Laws.Reading.{Gives}
use Rattle.wf_talk.specs.declared.request.Bad.{Bad}
use Rattle.wf_talk.specs.declared.request.Request.{Request}
use Rattle.wire_json.specs.declared.word.Word.{Word}
use Rattle.wire_json.specs.declared.word.Word.TheVariants as word
use Rattle.wire_json.specs.Words.{reading_of_word}
use Rattle.wire_json.proofs.request.request_named.Goals as goal

read_as : (w v : Word) (r : Result Request Bad) (d : Data) (ms : Members) → w ≡ v → Gives Some (λ x. x) r (reading_of_word v d ms) →
    Gives Some (λ x. x) r (reading_of_word w d ms)
read_as w v r d ms is gives = subst (λ (x : Word). Gives Some (λ (y : Request). y) r (reading_of_word x d ms)) (sym is) gives

pub returns-in-Claim : goal.returns-in-Claim
returns-in-Claim c = read_as c.args.word word.Claim c.act_in.result _ _ c.in-Claim.is c.act_in.ensures

pub returns-in-Finish : goal.returns-in-Finish
returns-in-Finish c = read_as c.args.word word.Finish c.act_in-in-Finish.result _ _ c.in-Finish.is c.act_in-in-Finish.ensures

pub returns-in-GiveBack : goal.returns-in-GiveBack
returns-in-GiveBack c = read_as c.args.word word.GiveBack c.act_in-in-GiveBack.result _ _ c.in-GiveBack.is c.act_in-in-GiveBack.ensures

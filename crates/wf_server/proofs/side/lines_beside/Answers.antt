use Rattle.std.proofs.Common.{◌≡◌, ap, ◌∙◌}
use denote.Param.Send.{sendable}
use Rattle.std.proofs.Crossing.{crosses}
use Rattle.policy_book.proofs.policy.Policy.TheSendSync.{the_sync as policy_sync}
use Rattle.wire_json.specs.Replies.{entry_text}
use Rattle.case_views.proofs.Spreading.{collected}
use Rattle.wf_server.proofs.EntriesCross.{entry_sync}
use Rattle.wf_server.proofs.side.lines_beside.Goals as goal

pub with_min_len-requires-send-Self : goal.with_min_len-requires-send-Self
with_min_len-requires-send-Self g c κs within = search (sendable, entry_sync) depth 20

pub with_min_len-requires-send-Self-Item : goal.with_min_len-requires-send-Self-Item
with_min_len-requires-send-Self-Item g c κs within = search (sendable, entry_sync) depth 20

pub map-requires-send-Self : goal.map-requires-send-Self
map-requires-send-Self g c κs within = search (sendable, entry_sync) depth 20

pub map-requires-send-Self-Item : goal.map-requires-send-Self-Item
map-requires-send-Self-Item g c κs within = search (sendable, entry_sync) depth 20

pub collect-requires-send-Self : goal.collect-requires-send-Self
collect-requires-send-Self g c κs within = search (sendable, crosses, entry_sync, policy_sync) depth 20 fits 20000

pub returns : goal.returns
returns g c =
    let slice = ap (λ it. it.slice.now) c.with_min_len.ensures.base ∙ c.par_iter.ensures in
    let made = c.in_ok-lines.ensures in
    let chain = rw (c.map.ensures.base, c.map.ensures.f) at made.1 in
    collected (λ v. v.items) (λ e line. line.items ≡ entry_text c.args.p.now e) chain.0 c.args.entries.now made.0 c.in_ok-lines.lines (chain.1 ∙ slice)
    chain.2 made.2

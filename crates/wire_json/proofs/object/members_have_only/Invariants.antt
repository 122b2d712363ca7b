use Rattle.std.proofs.Common.{◌≡◌, ◌++◌, map}
use Rattle.serde_json.specs.View.{members_view}
use Rattle.wire_json.specs.Requests.{has_only}
use Rattle.wire_json.proofs.object.members_have_only.Given as goal

abbrev pub invariant-members : goal.invariant-members
invariant-members l =
    has_only (map (λ k. k.now) l.others ++ map (λ k. k.now) l.keys) (members_view l.key-iterator) ≡ has_only
    (map (λ k. k.now) l.others ++ map (λ k. k.now) l.keys) (members_view l.fn.members.entries)

use Rattle.policy_reader.proofs.Words.{◌≡◌, map, drop, lists_text}
use Rattle.policy_reader.proofs.parts.is_among.Given as goal

abbrev pub invariant-texts : goal.invariant-texts
invariant-texts l = lists_text (map (λ k. k.now) (drop l.word-index l.texts)) l.text ≡ lists_text (map (λ k. k.now) l.texts) l.text

-- The draws of a generator of numbers. Its state is a number below 2 ^ 64, and a seed is the first
-- state.
use Rattle.std.specs.Prelude.{ℕ, zero, suc, ◌+◌, ◌*◌, ◌/◌, ◌%◌, ◌^◌}

-- the state after a draw
unfoldable pub next_state : ℕ → ℕ
next_state s = (s * 6364136223846793005 + 1442695040888963407) % 2 ^ 64

-- the state after n draws
unfoldable pub after : ℕ → ℕ → ℕ
after zero s = s
after (suc n) s = next_state (after n s)

-- what is drawn from a state: the new state without its lowest 33 bits
unfoldable pub drawn : ℕ → ℕ
drawn s = next_state s / 2 ^ 33

-- the number below n that is drawn from a state
unfoldable pub drawn_below : ℕ → ℕ → ℕ
drawn_below n s = drawn s % n

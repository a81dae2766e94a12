-- The octets of the input at hand. Assumes nothing: these are definitions.
-- hand   those between two places of a buffer
-- held   a window's
-- Fed    after more was read
use Rattle.std.specs.Prelude.{◌≡◌, List, ℕ, ◌-◌, ◌≤◌, length, take, drop}
use Rattle.frame_log.specs.declared.window.Window.{Window}

-- between at and have
abbrev pub hand : List ℕ → ℕ → ℕ → List ℕ
hand s at have = take (have - at) (drop at s)

abbrev pub held : Window → List ℕ
held w = hand w.buf.now w.at w.have

-- the octets that were at hand come first among those at hand now
pub record Fed (w v : Window) : Type 0 where
  pub order : v.at ≤ v.have
  pub fit : v.have ≤ length v.buf.now
  pub grown : w.have - w.at ≤ v.have - v.at
  pub kept : take (w.have - w.at) (held v) ≡ held w

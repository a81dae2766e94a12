-- The octets at hand: how many there are, and what is left without the first. Assumes nothing.
use mathlib.Core.Path.{◌≡◌, sym, ap, ◌∙◌}
use mathlib.Core.List.{List}
use Prim.Native.Nat.{ℕ, ◌+◌, ◌-◌, ◌≤◌}
use native.Mathlib.Omega.{arith}
use lib.ListN.{length, take, drop, length-drop}
use lib.Seq.{length-take-le, drop-drop}
use Rattle.meaning.proofs.Lists.{drop-take}
use Rattle.frame_log.specs.Hand.{hand, held}
use Rattle.frame_log.specs.declared.window.Window.{Window}

pub length-hand : (b : List ℕ) (at have : ℕ) → have ≤ length b → length (hand b at have) ≡ have - at
length-hand b at have fit = length-take-le (have - at) _ (omega (arith, length-drop at b))

pub length-held : (w : Window) → length (held w) ≡ w.have - w.at
length-held w = length-hand w.buf.now w.at w.have w.places.1

pub drop-hand : (b : List ℕ) (at have n : ℕ) → have ≤ length b → n ≤ length (hand b at have) → hand b (at + n) have ≡ drop n (hand b at have)
drop-hand b at have n fit h =
    let e : have - at ≡ n + (have - (at + n)) = omega (arith, length-hand b at have fit) in
    sym (ap (λ (m : ℕ). drop n (take m (drop at b))) e ∙ drop-take n (have - (at + n)) (drop at b) ∙ ap (take (have - (at + n))) (drop-drop n at b))

-- Octets put one after the other are put together, and what room they leave. Assumes nothing.
use mathlib.Core.Path.{◌≡◌, refl, sym, ap, ap₂, ◌∙◌}
use mathlib.Core.List.{List, [], ◌++◌}
use Prim.Native.Nat.{ℕ, ◌+◌, ◌≤◌}
use native.Mathlib.Nat.{add-zero}
use native.Mathlib.Omega.{arith}
use lib.ListN.{length, length-append}
use lib.Seq.{sets, length-sets}
use Rattle.meaning.proofs.Stores.{sets-append}
use Rattle.octets.specs.declared.writer.Writer.{Writer}
use Rattle.octets.specs.Writing.{Room, Over, Put}

pub put-none : (w : Writer) → Put w [] w
put-none w = record { next = sym (add-zero w.at); same = refl; out = refl }

pub put-two : {w w₁ w₂ : Writer} {at : ℕ} {xs ys : List ℕ} → Over w at xs w₁ → Put w₁ ys w₂ → Over w at (xs ++ ys) w₂
put-two {w} {w₁} {w₂} {at} {xs} {ys} a b =
    record {
      next = omega (arith, length-append xs ys, a.next, b.next);
      same = b.same ∙ ap₂ (λ (e : List ℕ) (n : ℕ). sets e n ys) a.same a.next ∙ sym (sets-append w.out.now at xs ys);
      out = b.out ∙ a.out;
    }

-- the buffer's length stays
pub put-long : {w w' : Writer} {at : ℕ} {xs : List ℕ} → Over w at xs w' → length w'.out.now ≡ length w.out.now
put-long {w} {w'} {at} {xs} p = ap length p.same ∙ length-sets w.out.now at xs

-- there is room for less by the octets put
pub put-less : {w w' : Writer} {xs : List ℕ} → Put w xs w' → w'.at + length w.out.now ≡ w.at + length xs + length w'.out.now
put-less p = omega (arith, p.next, put-long p)

pub room-after : {w w' : Writer} {xs : List ℕ} (n m : ℕ) → Put w xs w' → Room w n → length xs + m ≤ n → Room w' m
room-after n m p r h = omega (arith, r, h, put-less p)

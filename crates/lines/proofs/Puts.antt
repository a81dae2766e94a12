-- Octets put into a buffer, one run after the other.
-- Assumes nothing.
use mathlib.Core.Path.{◌≡◌, sym, ap, ap₂, ◌∙◌}
use mathlib.Core.List.{List, ◌++◌}
use Prim.Native.Nat.{ℕ, ◌+◌}
use native.Mathlib.Omega.{arith}
use lib.ListN.{length, take, drop, length-append}
use lib.Seq.{sets, sets-eq, length-sets, length-take-le, take_at}
use Rattle.meaning.proofs.Stores.{sets-append}
use Rattle.octets.specs.declared.writer.Writer.{Writer}
use Rattle.octets.specs.Writing.{Over}
use Rattle.octets.proofs.Writing.{put-long}
use Rattle.lines.specs.Text.{Put}

pub long : {d : List ℕ} {at : ℕ} {u e : List ℕ} {r : ℕ} → Put d at u e r → length e ≡ length d
long {d} {at} {u} p = ap length p.made ∙ length-sets d at u

pub then : {d : List ℕ} {at : ℕ} {u e v f : List ℕ} {r q : ℕ} → Put d at u e r → Put e r v f q → Put d at (u ++ v) f q
then {d} {at} {u} {e} {v} {f} {r} {q} a b =
    record {
      room = omega (arith, a.next, b.room, long a, length-append u v);
      made = b.made ∙ ap₂ (λ (l : List ℕ) (k : ℕ). sets l k v) a.made a.next ∙ sym (sets-append d at u v);
      next = omega (arith, a.next, b.next, length-append u v);
    }

-- by a writer
pub by : {w w' : Writer} {xs : List ℕ} → Over w w.at xs w' → Put w.out.now w.at xs w'.out.now w'.at
by {w' = w'} p = record { room = omega (arith, w'.inside, p.next, put-long p); made = p.same; next = p.next }

-- up to the place after them
pub taken : {d : List ℕ} {at : ℕ} {u e : List ℕ} {r : ℕ} → Put d at u e r → take r e ≡ take at d ++ u
taken {d} {at} {u} {e} {r} p =
    let l : length (take at d ++ u) ≡ at + length u =
    length-append (take at d) u ∙ ap (λ (k : ℕ). k + length u) (length-take-le at d (omega (arith, p.room))) in
    ap₂ (λ (k : ℕ) (x : List ℕ). take k x) p.next (p.made ∙ sets-eq u d at p.room)
    ∙ take_at (take at d ++ u) (drop (at + length u) d) (at + length u) l

-- A frame's view, by its cuts. Assumes nothing.
use mathlib.Core.Path.{◌≡◌, refl, ap}
use mathlib.Core.List.{List}
use Prim.Native.Nat.{ℕ, ◌+◌, ◌-◌, ◌≤◌, ◌<◌}
use native.Mathlib.Omega.{arith}
use mir.Syntax.{w64}
use mir.Val.{Fits as Fits64}
use lib.ListN.{length, length-take, length-drop}
use Rattle.meaning.specs.Octets.{part}
use Rattle.meaning.specs.Fcs.{inner}
use Rattle.meaning.specs.Frame.{level_of, tag_len, header_of, cuts_of, view, open_end, private_len}
use Rattle.meaning.specs.Receive.{private_of}
use Rattle.meaning.specs.Room.{Fits}
use Rattle.meaning.specs.declared.Cuts.{Cuts}
use Rattle.meaning.proofs.Frame.{head-is, aux-is, opens-is}
use Rattle.meaning.proofs.Lengths.{bounded}

pub header-is : (b : List ℕ) → (view b).header ≡ header_of (part 0 (cuts_of b).head b)
unfolding view
header-is b = ap header_of (head-is b)

pub view-aux : (b : List ℕ) → (view b).aux ≡ part (cuts_of b).head (cuts_of b).aux b
unfolding view
view-aux b = aux-is b

pub view-opens : (b : List ℕ) → (view b).opens ≡ part ((cuts_of b).head + (cuts_of b).aux) (cuts_of b).opens b
unfolding view
view-opens b = opens-is b

pub view-cuts : (b : List ℕ) → (view b).cuts ≡ cuts_of b
unfolding view
view-cuts b = refl

pub view-size : (b : List ℕ) → (view b).size ≡ length b
unfolding view
view-size b = refl

pub ruleset divided = (header-is, view-aux, view-opens, view-cuts, view-size)

-- where the open payload starts is a machine number
pub start-fits : (b : List ℕ) (c : Cuts) → c ≡ cuts_of b → Fits64 w64 (c.head + c.aux)
start-fits b c e = let q = bounded _ _ e in omega arith

-- ---- a frame whose parts fit it
pub fits-body : (f b : List ℕ) → Fits f → b ≡ inner f → open_end (cuts_of b) + tag_len (level_of (view b).aux) ≤ length b
fits-body f b fits e = rw e fits.body

pub inner-short : (f b : List ℕ) → Fits f → b ≡ inner f → length b ≤ 125
unfolding inner
inner-short f b fits e = rw e (simp length-take (omega (arith, fits.most)))

pub private-is : (b : List ℕ) → private_len (view b) ≡ length b - open_end (cuts_of b) - tag_len (level_of (view b).aux)
unfolding private_len
private-is b = rw (view-cuts b, view-size b)

-- the parts fill the body
pub parts-add : (b : List ℕ) (n p l : ℕ) → open_end (cuts_of b) + tag_len (level_of (view b).aux) ≤ length b
    → n ≡ open_end (view b).cuts → p ≡ private_len (view b) → l ≡ level_of (view b).aux → n + p + tag_len l ≡ length b
parts-add b n p l whole i j e = rw (i, j, e, private-is b, view-cuts b) (omega arith)

pub body-small : (b : List ℕ) → length b ≤ 125 → length b < 65280
body-small b short = omega arith

pub private-in : (b x : List ℕ) (p : ℕ) → length b ≤ 125 → length x ≡ 127 → p ≡ private_len (view b) → p ≤ length x
private-in b x p short room e = rw (e, private-is b, room) (omega arith)

pub private-room : (b o p : List ℕ) → length b ≤ 125 → length o ≡ 127 → p ≡ private_of (view b) b → 0 + length p ≤ length o
unfolding private_of
private-room b o p short room e = rw (e, room) (simp (length-take, length-drop) (omega arith))

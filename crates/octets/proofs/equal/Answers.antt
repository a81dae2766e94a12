-- `equal` meets its contract: a turn compares the two octets after those that are yielded. Assumes nothing.
use Rattle.std.proofs.Common.{◌≡◌, sym, ℕ, List, ◌+◌, ◌<◌, length, get_or, arith, rules}
use Rattle.std.proofs.lemmas.Slice.Zip.{zip_turn, zip_end}
use Rattle.std.proofs.lemmas.List.{length_push}
use lib.Bits.{bit_or, bit_xor}
use Rattle.meaning.proofs.Same.{Compared, compared-none, compared-more, compared-end, same-long}
use Rattle.octets.proofs.equal.Goals as goal

pair-more : (x y : List ℕ) (d i j : ℕ) {u v : ℕ} → Compared x y d i → i < length x → u ≡ get_or x i 0 → v ≡ get_or y i 0 → j ≡ i + 1
    → Compared x y (bit_or d (bit_xor u v)) j
pair-more x y d i j m h e f g = rw (e, f, g) (compared-more x y d i m h)

pub returns-then-a-b : goal.returns-then-a-b
returns-then-a-b c = sym (same-long _ _ c.if-a-b.true)

pub loop-x-init : goal.loop-x-init
loop-x-init c = compared-none _ _ c.if-a-b.false

pub loop-x-preserved : goal.loop-x-preserved
loop-x-preserved c = let l = c.loop-x in
    let t = zip_turn c.args.a.now c.args.b.now l.yielded _ _ c.next.new.self c.next.result (search rules) (search rules) l.yielded_by (c.in-Some.x, c.in-Some.y) c.in-Some.is c.next.ensures.steps in
    pair-more _ _ l.differ _ _ l.invariant t.0 (t.2 0) (t.3 0) (length_push l.yielded _)

pub returns : goal.returns
returns c = let l = c.loop-x in
    let t = zip_end c.args.a.now c.args.b.now l.yielded _ _ c.next.new.self c.next.result (search rules) (search rules) l.yielded_by c.in-None.is c.next.ensures.steps in
    compared-end _ _ _ _ l.invariant (omega (arith, t, c.if-a-b.false))

-- Octets read behind those that were read before. Assumes nothing.
use Rattle.std.proofs.Common.{◌≡◌, ℕ, ◌+◌, ◌≤◌, List, ◌++◌, length, take, sym, ap, ◌∙◌, subst, length-take-le}
use Rattle.std.proofs.Math.Seq.{take-append-add}
use Rattle.std.proofs.lemmas.List.{take-append-le}
use Rattle.std.specs.Io.KnownBytes.{Consumes}
use Rattle.std.proofs.KnownBytes.{Consumes-trans}
use Rattle.std.specs.declared.option.Option.{Option}
use borrow.Rule.Slice.PartMut.{put_mid, post_of}

-- the front of a list with ys from done on
pub take-behind : (done n k : ℕ) (l ys : List ℕ) → done ≤ length l → n ≤ length ys → take (done + n) (put_mid done k l ys) ≡ take done l ++ take n ys
take-behind done n k l ys h g =
    let after = post_of done k l in
    let front : length (take done l) ≡ done = length-take-le done l h in
    ap (λ (m : ℕ). take (m + n) (take done l ++ (ys ++ after))) (sym front) ∙ take-append-add (take done l) (ys ++ after) n ∙ ap (λ (z : List ℕ). take done l ++ z) (take-append-le n ys after g)

-- done octets stand at the front of l, and n more were read behind them
pub read-more : (a b c : Option (List ℕ)) (done n k : ℕ) (l ys : List ℕ) → done ≤ length l → n ≤ length ys → Consumes a b (take done l) → Consumes b c (take n ys)
    → Consumes a c (take (done + n) (put_mid done k l ys))
read-more a b c done n k l ys h g p q = subst (Consumes a c) (sym (take-behind done n k l ys h g)) (Consumes-trans a b c (take done l) (take n ys) p q)

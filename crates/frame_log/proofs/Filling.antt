-- What is at hand after more was read behind it. Assumes nothing.
use Rattle.std.proofs.Common.{◌≡◌, ℕ, ◌+◌, ◌-◌, ◌≤◌, List, length, take, drop, sym, ap, ◌∙◌, subst, length-take-le, drop_at, arith}
use Rattle.std.specs.Io.KnownBytes.{Consumes}
use Rattle.std.specs.declared.option.Option.{Option}
use borrow.Rule.Slice.PartMut.{put_mid}
use Rattle.reading.proofs.Filling.{take-behind}
use Rattle.frame_log.specs.Hand.{hand}

-- what is at hand behind n octets is what was read there
pub read-behind : (a b : Option (List ℕ)) (n got k : ℕ) (l ys : List ℕ) → n ≤ length l → got ≤ length ys → Consumes a b (take got ys)
    → Consumes a b (drop n (hand (put_mid n k l ys) 0 (n + got)))
read-behind a b n got k l ys h g p =
    let e : n + got - 0 ≡ n + got = omega arith in
    let back = ap (λ (m : ℕ). drop n (take m (put_mid n k l ys))) e ∙ ap (drop n) (take-behind n got k l ys h g) ∙ drop_at (take n l) (take got ys) n (length-take-le n l h) in
    subst (Consumes a b) (sym back) p

-- `same_from` meets its contract: `all` tests the places below n, one after the other. Assumes nothing.
use Rattle.std.proofs.Common.{◌≡◌, refl, ap, ◌∙◌, rules, true, false, Bool, ℕ, zero, suc, ◌+◌, ◌&&◌, get_or, eqb, not, add-one, arith}
use borrow.Author.Tests.{tests}
use Rattle.std.specs.List.{list_all, range_with_len}
use Rattle.std.proofs.lemmas.Iterator.{YieldsList-from_range}
use Rattle.std.proofs.lemmas.Iterator.Search.{all_from_yields_List}
use Rattle.meaning.specs.Octets.{pick, scan}
use Rattle.octets.proofs.same_from.Goals as goal

one : (t : Bool) {r s : Bool} → r ≡ s → (t && r) ≡ pick (not t) false s
one true e = e
one false e = refl

below : (p : ℕ → Bool) (n i : ℕ) → list_all p (range_with_len i n) ≡ scan (λ k. not (p k)) (λ k. false) true n i
below p zero i = refl
below p (suc n) i = one (p i) (ap (λ (j : ℕ). list_all p (range_with_len j n)) (add-one i) ∙ below p n (suc i))

pub returns : goal.returns
returns c = let a = c.args in
    let p : ℕ → Bool = λ k. eqb (get_or a.a.now k 0) (get_or a.b.now (a.at + k) 0) in
    all_from_yields_List p _ _ c.all.result c.all.ensures.ran (YieldsList-from_range 0 a.n a.n refl (omega arith)) (λ x b q k. search (rules, tests)) ∙ below p a.n 0

-- Reads and writes one after the other: what is to be printed of the octets left to be read.
-- Assumes nothing.
use Rattle.std.proofs.Common.{◌≡◌, ℕ, ◌+◌, ◌-◌, ◌^◌, ◌≤◌, ◌<◌, List, [], ◌++◌, length, refl, sym, ap, ◌∙◌, subst, arith, le_refl, append_assoc, length-append, None, Some}
use Rattle.std.specs.declared.option.Option.{Option}
use Rattle.std.specs.Io.KnownBytes.{Appends, Consumes, IsAtEnd}
use Rattle.std.proofs.KnownBytes.{Appends-nil, Appends-trans}
use Rattle.frame_log.specs.Whole.{Prints}

-- a and b: what was left to be read, and what is; c and d: what was printed, and what is. T: what was to be printed of what was left to be read, U: what is.
-- The number k has room for each octet that is left, as m had.
abbrev pub Along : (T U : List ℕ → List ℕ) (k m : ℕ) (a b c d : Option (List ℕ)) → Type 0
Along T U k m None b c d = Unit {0}
Along T U k m (Some x) None c d = ⊥
Along T U k m (Some x) (Some y) c d = (w : List ℕ) × Appends c d w × (T x ≡ w ++ U y) × (k + length y ≤ m + length x)

pub along-none : (T : List ℕ → List ℕ) (k : ℕ) (a c : Option (List ℕ)) → Along T T k k a a c c
along-none T k None c = tt
along-none T k (Some x) c = ([], Appends-nil c, refl, le_refl _)

-- bs was read
pub along-read : (T U V : List ℕ → List ℕ) (k j m : ℕ) (a b e c d : Option (List ℕ)) (bs : List ℕ) → Along T U k m a b c d → Consumes b e bs
    → ((y : List ℕ) → U (bs ++ y) ≡ V y) → j ≤ k + length bs → Along T V j m a e c d
along-read T U V k j m None b e c d bs p q h g = tt
along-read T U V k j m (Some x) None e c d bs p q h g = absurd p
along-read T U V k j m (Some x) (Some y) None c d bs p q h g = absurd q
along-read T U V k j m (Some x) (Some y) (Some z) c d bs p q h g =
    (p.0, p.1, p.2 ∙ ap (λ (l : List ℕ). p.0 ++ l) (ap U q ∙ h z), omega (arith, p.3, ap length q, length-append bs z))

-- t was printed
pub along-write : (T U V : List ℕ → List ℕ) (k j m : ℕ) (a b c d e : Option (List ℕ)) (t : List ℕ) → Along T U k m a b c d → Appends d e t
    → ((y : List ℕ) → U y ≡ t ++ V y) → j ≤ k → Along T V j m a b c e
along-write T U V k j m None b c d e t p q h g = tt
along-write T U V k j m (Some x) None c d e t p q h g = absurd p
along-write T U V k j m (Some x) (Some y) c d e t p q h g =
    (p.0 ++ t, Appends-trans c d e p.0 t p.1 q, p.2 ∙ ap (λ (l : List ℕ). p.0 ++ l) (h y) ∙ sym (append_assoc p.0 t (V y)), omega (arith, p.3))

-- all was read, and t is the last that is printed
pub along-end : (T U : List ℕ → List ℕ) (k m : ℕ) (a b c d e : Option (List ℕ)) (t : List ℕ) → Along T U k m a b c d → Appends d e t
    → (k < 2 ^ 64 - 1 → IsAtEnd b × (U [] ≡ t)) → (n : ℕ) → m + 1 ≤ n → Prints T n a c e
along-end T U k m None b c d e t p q h n g = tt
along-end T U k m (Some x) None c d e t p q h n g = absurd p
along-end T U k m (Some x) (Some y) c d e t p q h n g = λ l.
    let f = h (omega (arith, p.3)) in
    let z : T x ≡ p.0 ++ t = p.2 ∙ ap (λ (i : List ℕ). p.0 ++ i) (ap U f.0 ∙ f.1) in
    subst (Appends c e) (sym z) (Appends-trans c d e p.0 t p.1 q)

-- ---- the same from the end
-- bs was read before
pub prints-read : (f g : List ℕ → List ℕ) (m n : ℕ) (a b c d : Option (List ℕ)) (bs : List ℕ) → Consumes a b bs → ((y : List ℕ) → f (bs ++ y) ≡ g y)
    → n ≤ m + length bs → Prints g n b c d → Prints f m a c d
prints-read f g m n None b c d bs p h e q = tt
prints-read f g m n (Some x) None c d bs p h e q = absurd p
prints-read f g m n (Some x) (Some y) c d bs p h e q = λ l.
    subst (Appends c d) (sym (ap f p ∙ h y)) (q (omega (arith, ap length p, length-append bs y)))

-- t was printed before
pub prints-write : (f g : List ℕ → List ℕ) (m n : ℕ) (a b c d : Option (List ℕ)) (t : List ℕ) → Appends b c t → ((y : List ℕ) → f y ≡ t ++ g y)
    → n ≤ m → Prints g n a c d → Prints f m a b d
prints-write f g m n None b c d t p h e q = tt
prints-write f g m n (Some x) b c d t p h e q = λ l. subst (Appends b d) (sym (h x)) (Appends-trans b c d t (g x) p (q (omega arith)))

-- t is all that is printed, at the end of the input
pub prints-last : (f : List ℕ → List ℕ) (m : ℕ) (a b c : Option (List ℕ)) (t : List ℕ) → Appends b c t → IsAtEnd a → f [] ≡ t → Prints f m a b c
prints-last f m None b c t p h e = tt
prints-last f m (Some x) b c t p h e = λ l. subst (Appends b c) (sym (ap f h ∙ e)) p

-- t is all that is printed, whatever is left of the input
pub prints-all : (f : List ℕ → List ℕ) (m : ℕ) (a b c : Option (List ℕ)) (t : List ℕ) → Appends b c t → ((y : List ℕ) → f y ≡ t) → Prints f m a b c
prints-all f m None b c t p e = tt
prints-all f m (Some x) b c t p e = λ l. subst (Appends b c) (sym (e x)) p

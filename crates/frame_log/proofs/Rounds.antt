-- One round of the log program: a read, a batch and a write. What is left to be printed stays the same but for what was printed.
-- Assumes nothing.
use Rattle.std.proofs.Common.{◌≡◌, ℕ, ◌+◌, ◌-◌, ◌^◌, ◌≤◌, ◌<◌, Bool, true, false, List, [], ◌++◌, length, take, drop, refl, sym, ap, ◌∙◌, arith, append_assoc, length-drop, length-append}
use Rattle.std.proofs.lemmas.List.{take-append-drop}
use Rattle.std.specs.declared.option.Option.{Option}
use Rattle.std.specs.Io.KnownBytes.{Appends, Consumes, IsAtEnd}
use Rattle.std.specs.Prelude.{None}
use lib.Dec.{ltb}
use borrow.Author.Tests.{ltb-true, ltb-false}
use Rattle.lines.specs.Log.{printed_from}
use Rattle.frame_log.specs.declared.window.Window.{Window}
use Rattle.frame_log.specs.declared.frames.Progress.{Progress}
use Rattle.frame_log.specs.Hand.{held, Fed}
use Rattle.frame_log.specs.Buffers.{whole_len, Batched, Ended}
use Rattle.frame_log.specs.Whole.{Prints}
use Rattle.reading.specs.Full.{HoldsEnd}
use Rattle.frame_log.proofs.Hands.{length-held}
use Rattle.frame_log.proofs.Endings.{printed-ending}
use Rattle.frame_log.proofs.Whole.{Along, along-read, along-write, along-end}

-- what is to be printed of the octets y behind those at hand
abbrev pub left : ℕ → List ℕ → List ℕ → List ℕ → List ℕ → List ℕ
left k s o h y = printed_from k s o (h ++ y)

module _ (T : List ℕ → List ℕ) (m : ℕ) (a c : Option (List ℕ)) (k : ℕ) (s o : List ℕ) where
  -- more was read behind the octets at hand
  pub round-read : (w v : Window) (e₀ e d : Option (List ℕ)) → Along T (left k s o (held w)) (k + length (held w)) m a e₀ c d
      → Fed w v → Consumes e₀ e (drop (length (held w)) (held v)) → Along T (left k s o (held v)) (k + length (held v)) m a e c d
  round-read w v e₀ e d g f q =
      let h : List ℕ = held w in
      let i : List ℕ = held v in
      let n : ℕ = length h in
      let join : h ++ drop n i ≡ i =
      ap (λ (l : List ℕ). l ++ drop n i) (sym f.kept ∙ ap (λ (j : ℕ). take j i) (sym (length-held w))) ∙ take-append-drop n i in
      along-read T (left k s o h) (left k s o i) (k + n) (k + length i) m a e₀ e c d (drop n i) g q
      (λ y. ap (printed_from k s o) (sym (append_assoc h (drop n i) y) ∙ ap (λ (l : List ℕ). l ++ y) join))
      (omega (arith, ap length join, length-append h (drop n i)))

  module _ (h t s' o' t' : List ℕ) (used : ℕ) (r : Progress) (batched : Batched s o k h t s' o' t' used r) (e d f : Option (List ℕ))
      (before : Along T (left k s o h) (k + length h) m a e c d) (wrote : Appends d f (take used t')) where
    -- the lines of a batch were printed
    pub round-wrote : r.number ≤ k + r.taken → Along T (left r.number s' o' (drop r.taken h)) (r.number + length (drop r.taken h)) m a e c f
    round-wrote i =
        along-write T (left k s o h) (left r.number s' o' (drop r.taken h)) (k + length h) (r.number + length (drop r.taken h)) m a e c d f (take used t') before wrote
        batched.goes (omega (arith, i, batched.fit, length-drop r.taken h))

    -- the batch answered none, and the ending was printed
    pub round-ended : r.taken ≡ 0 → 80 ≤ length t → (t'' : List ℕ) (x : ℕ) → Ended h t'' x → (b : List ℕ) (have : ℕ) → HoldsEnd b have e
        → (256 ≤ length b → length b ≤ have → 256 ≤ length h) → 256 ≤ length b → (r.taken ≡ 0 → 80 ≤ length t → k < 18446744073709551615 → length h < 256)
        → (n : ℕ) → m + 1 ≤ n → (g : Option (List ℕ)) → Appends f g (take x t'') → Prints T n a c g
    round-ended z room t'' x ended b have holds enough long short n i g closed =
        let none : k < 2 ^ 64 - 1 → whole_len h ≡ None = λ u. batched.done z room (omega (arith, u)) in
        let all : k < 2 ^ 64 - 1 → IsAtEnd e = λ u. by (short z room (omega (arith, u))) (ltb have (length b)) refl in
        let last : k < 2 ^ 64 - 1 → left r.number s' o' (drop r.taken h) [] ≡ take x t'' =
        λ u. rw z (printed-ending r.number s' o' h (none u) ∙ sym ended.text) in
        along-end T (left r.number s' o' (drop r.taken h)) k m a e c f g (take x t'')
        (along-write T (left k s o h) (left r.number s' o' (drop r.taken h)) (k + length h) k m a e c d f (take used t') before wrote batched.goes (omega arith))
        closed (λ u. (all u, last u)) n i
      where
        by : length h < 256 → (u : Bool) → ltb have (length b) ≡ u → IsAtEnd e
        by w true q = holds (ltb-true have (length b) q)
        by w false q = absurd (let j = enough long (ltb-false have (length b) q) in omega (arith, j, w))

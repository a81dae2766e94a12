-- The premise of demand 3 for the log is one that a run meets: the files and frames of `Pairs`, put together as two inputs, differ and are alike, so
-- they print the same lines. The lines are computed: two frames are accepted, three refused. Assumes nothing.
use native.Mathlib.Omega.{arith}
use Prim.Native.Nat.{ℕ, ◌≤◌}
use mathlib.Core.Path.{◌≡◌, refl, ap, ◌∙◌}
use mathlib.Core.Logic.{◌≢◌}
use mathlib.Core.List.{List, [], ◌∷◌}
use lib.ListN.{length, get_or, drop}
use Rattle.meaning.specs.Octets.{octs}
use Rattle.meaning.specs.Records.{width_of, limit_of, start_by}
use Rattle.meaning.specs.File.{file_most}
use Rattle.meaning.specs.Receive.{Received, refusal, keep, raise, Outcome, received}
use Rattle.meaning.specs.declared.Refusal.TheVariants.{Fcs, Filtered, CounterError}
use Rattle.lines.specs.Text.{ascii, name_of, decimal, decimal_by, line_of}
use Rattle.lines.specs.Log.{answers, lines_from, printed}
use Rattle.demands.specs.Lines.{AlikeInputs, SameLines, input_of}
use Rattle.demands.proofs.Computing.{computed}
use Rattle.demands.proofs.Inputs.{inputs-of, printed-of}
use Rattle.demands.proofs.Lines.{same-lines}
use Rattle.demands.proofs.Pairs.{
  key_a,
  file_a,
  file_b,
  site_a,
  empty,
  plain,
  strange,
  spoilt,
  late_a,
  untagged_a,
  frames_a,
  frames_b,
  out_a,
  took,
  text,
  plain-A,
  strange-A,
  spoilt-A,
  late-A,
  untagged-A,
  files-alike,
  frames-paired,
}

abbrev input_a : List ℕ
input_a = input_of file_a frames_a

abbrev input_b : List ℕ
input_b = input_of file_b frames_b

pub inputs-alike : AlikeInputs input_a input_b
inputs-alike = inputs-of file_a file_b frames_a frames_b (omega arith) files-alike frames-paired

-- the first key octet
pub inputs-differ : input_a ≢ input_b
unfolding input_of octs
inputs-differ e = let z : ◌≡◌ {A = ℕ} 0xc0 0x30 = ap (λ (i : List ℕ). get_or i 101 0) e in omega arith

pub lines-same : printed input_a ≡ printed input_b
unfolding SameLines
lines-same = same-lines input_a input_b inputs-alike

-- the first answer, by its outcome, and the others
answers_of : (s f o : List ℕ) (fs : List (List ℕ)) (x : Outcome) (r : List Received) → received s f o ≡ x → answers x.site x.out fs ≡ r
    → answers s o (f ∷ fs) ≡ x.answer ∷ r
unfolding answers
answers_of s f o fs x r e h = rw (e, h)

answers-A : answers site_a empty frames_a
    ≡ (took site_a (plain (1 ∷ 2 ∷ 3 ∷ [])) empty 0 0 (1 ∷ 2 ∷ 3 ∷ []) keep).answer
    ∷ refusal Filtered
    ∷ refusal Fcs
    ∷ refusal CounterError
    ∷ (took site_a untagged_a out_a 4 1 (text key_a untagged_a) (raise 0 0 5)).answer
    ∷ []
unfolding computed answers
answers-A =
    answers_of site_a (plain (1 ∷ 2 ∷ 3 ∷ [])) empty (drop 1 frames_a) _ _ plain-A
    (answers_of site_a strange out_a (drop 2 frames_a) _ _ strange-A
    (answers_of site_a (spoilt 0) out_a (drop 3 frames_a) _ _ spoilt-A
    (answers_of site_a late_a out_a (drop 4 frames_a) _ _ late-A
    (answers_of site_a untagged_a out_a [] _ _ untagged-A refl))))

short-A : length file_a ≤ file_most
unfolding file_most start_by width_of limit_of
short-A = omega arith

pub lines-shown : printed input_a ≡ ascii "frame status octets\n1 SUCCESS 3\n2 FILTERED 0\n3 FCS 0\n4 COUNTER_ERROR 0\n5 SUCCESS 2\n"
unfolding computed lines_from line_of name_of decimal decimal_by
lines-shown = printed-of file_a frames_a short-A ∙ rw answers-A

-- A built frame has at most 127 octets: what building keeps on a site that holds its rules says so, and a refusal's length is 0. Assumes nothing.
use Rattle.std.proofs.Common.{◌≡◌, refl, ap, List, ℕ, ◌≤◌, Result, Ok, Err, arith}
use Rattle.std.specs.Result.{result_unwrap_or}
use Rattle.meaning.specs.Site.{site_rule}
use Rattle.meaning.specs.Build.{refuse, built_of, Construction, construction, laid, built_valid, built}
use Rattle.meaning.specs.declared.Refusal.{Refusal}
use Rattle.meaning.specs.declared.Refusal.TheVariants.{Site}
use Rattle.meaning.specs.declared.Request.{Request}
use Rattle.meaning.proofs.Scan.{pick-all}
use Rattle.builder.proofs.Laws.{keeps}

built-low : (s : List ℕ) (q : Request) (o p out : List ℕ) → (built s q o p out).answer.len ≤ 127
unfolding built laid
built-low s q o p out =
    pick-all (λ (w : Construction). w.answer.len ≤ 127) (site_rule s) (built_valid s q o p out) (laid s out (refuse Site))
    (λ rule. (keeps s q o p out rule).len-low) (λ _. omega arith)

told-len : (r : Result ℕ Refusal) → result_unwrap_or r 0 ≡ (built_of r).len
told-len (Ok n) = refl
told-len (Err r) = refl

-- of an answer that is known to be the meaning's
pub len-low : (r : Result ℕ Refusal) (m : ℕ) (s' o' s : List ℕ) (q : Request) (o p out : List ℕ)
    → construction (built_of r) s' o' ≡ built s q o p out → m ≡ result_unwrap_or r 0 → m ≤ 127
len-low r m s' o' s q o p out e d =
    let h : (built_of r).len ≡ (built s q o p out).answer.len = ap (λ (w : Construction). w.answer.len) e in
    omega (arith, built-low s q o p out, told-len r)

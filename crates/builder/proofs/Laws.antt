-- What building keeps: the site's rules, and the lengths of all that is lent; and a border of the length. Assumes nothing.
--     keeps         of an answer where the site held its rules
--     rule-kept     the site holds them afterwards
--     border        header 9, key mode 1, level 6: the frame has 25 octets more than its private payload, so 102 fit and 103 do not
use mathlib.Core.Path.{◌≡◌, refl, sym, ap, ◌∙◌}
use mathlib.Core.Bool.{true}
use mathlib.Core.List.{List, []}
use Prim.Native.Nat.{ℕ, ◌+◌, ◌≤◌}
use native.Mathlib.Omega.{arith}
use lib.ListN.{length}
use lib.Dec.{ltb}
use Rattle.meaning.specs.Frame.{key_source_len, key_id_len, tag_len}
use Rattle.meaning.specs.Site.{site_rule}
use Rattle.meaning.specs.Build.{header_by, head_octets, aux_octets, with_fcs, frame_len, Made, refuse, Construction, own_raised, laid, built_valid}
use Rattle.meaning.specs.declared.Request.{Request}
use Rattle.meaning.proofs.Raises.{own-rule, own-length}
use Rattle.meaning.proofs.Stores.{length-beside}
use Rattle.std.specs.Prelude.{Option, Some, None, Result, Ok, Err, is_some}
use Rattle.meaning.specs.declared.Refusal.{Refusal}
use Rattle.meaning.specs.declared.Refusal.TheVariants.{Room}
use Rattle.meaning.proofs.Scan.{pick-all}
use Rattle.std.proofs.lemmas.Bool.{ltb-false}
use Rattle.builder.specs.Decided.{decided_at, body_by}
use Rattle.builder.proofs.Sizes.{aux-some}
use Rattle.builder.proofs.Ends.{ready, body-long, result, made-is}

-- an answer, and the site and the output afterwards, beside those before
pub record Keeps (s out : List ℕ) (u : Construction) : Type 0 where
  pub site-rule : site_rule u.site ≡ true
  pub site-long : length u.site ≡ length s
  pub out-long : length u.out ≡ length out
  pub len-low : u.answer.len ≤ 127

module _ (s : List ℕ) (q : Request) (o p out : List ℕ) (rule : site_rule s ≡ true) where
  raised : (v : Option ℕ) → (site_rule (own_raised (is_some v) s) ≡ true) × (length (own_raised (is_some v) s) ≡ length s)
  unfolding own_raised
  raised None = (rule, refl)
  raised (Some k) = (own-rule s rule, own-length s rule)

  unchanged : (r : Refusal) → Keeps s out (laid s out (refuse r))
  unfolding laid
  unchanged r = record { site-rule = rule; site-long = refl; out-long = refl; len-low = omega arith }

  by : 127 ≤ length out → (v : Result (Option ℕ) Refusal) → decided_at s q o p ≡ v → Keeps s out (laid s out (result s q o p v))
  unfolding laid result
  by n (Err r) e = unchanged r
  by n (Ok v) e =
      let long = body-long s q o p v (ready s q o p e) in
      record {
        site-rule = (raised v).0;
        site-long = (raised v).1;
        out-long = length-beside (with_fcs (body_by s q o p v)) out (omega (arith, long, n));
        len-low = long;
      }

  pub keeps : Keeps s out (built_valid s q o p out)
  unfolding built_valid
  keeps = rw (made-is s q o p (length out))
      (pick-all (λ (m : Made). Keeps s out (laid s out m)) (ltb (length out) 127) (refuse Room) (result s q o p (decided_at s q o p))
      (λ e. unchanged Room) (λ e. by (ltb-false (length out) 127 e) (decided_at s q o p) refl))

  pub rule-kept : site_rule (built_valid s q o p out).site ≡ true
  rule-kept = keeps.site-rule

-- header 9, key mode 1, level 6
id-one : key_id_len 1 ≡ 1
unfolding key_id_len key_source_len
id-one = refl

tag-six : tag_len 6 ≡ 8
unfolding tag_len
tag-six = refl

pub border : (t : List ℕ) (q : Request) (p : List ℕ) → length q.keysource ≡ 8 → length (head_octets (header_by t q)) ≡ 9 → q.keymode ≡ 1 → q.level ≡ 6
    → frame_len t q [] p ≡ length p + 25
unfolding frame_len
border t q p k h m l =
    let a : 5 + 1 ≡ length (aux_octets q 0) = aux-some q 0 1 k (λ z. omega arith) (sym (ap key_id_len m ∙ id-one)) in
    let b : tag_len q.level ≡ 8 = ap tag_len l ∙ tag-six in
    omega arith

-- What unsealing gives is what the meaning opens: the schedule is the key's, and the nonce the sender's. Assumes nothing.
use mathlib.Core.Path.{◌≡◌}
use mathlib.Core.Bool.{Bool}
use mathlib.Core.List.{List}
use Prim.Native.Nat.{ℕ}
use Rattle.meaning.specs.Octets.{beside}
use Rattle.meaning.specs.Frame.{view}
use Rattle.meaning.specs.Cipher.{cipher}
use Rattle.meaning.specs.Receive.{opened}
use Rattle.aes.specs.Schedule.{scheduled, cipher_by}
use Rattle.aes.proofs.Laws.{same-cipher}
use Rattle.receiver.specs.Parts.{OpenedWith, nonce_in}

-- a frame under the key k from the device with extended address e: the tag's verdict, and the text in the scratch
pub record Unsecured (k : List ℕ) (e : ℕ) (b x : List ℕ) (right : Bool) (x' : List ℕ) : Type 0 where
  pub verdict : right ≡ (opened k e (view b) b).right
  pub text : x' ≡ beside (opened k e (view b) b).text x

pub by-key : (b k : List ℕ) (e : ℕ) (w nonce x x' : List ℕ) (right : Bool)
    → w ≡ scheduled k → nonce ≡ nonce_in b e → OpenedWith (cipher_by w) nonce b x right x' → Unsecured k e b x right x'
unfolding opened nonce_in
by-key b k e w nonce x x' right q n y =
    let E : cipher_by w ≡ cipher k = rw q (same-cipher k) in
    let z : OpenedWith (cipher k) (nonce_in b e) b x right x' = rw (← E, ← n) y in
    record { verdict = z.verdict; text = z.text }

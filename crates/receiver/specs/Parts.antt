-- What the parts of receiving promise. Assumes nothing: these are definitions.
use Rattle.std.specs.Prelude.{ℕ, suc, ◌+◌, ◌≡◌, Bool, List, take, drop, eqb}
use Rattle.meaning.specs.Octets.{pick, beside}
use Rattle.meaning.specs.Frame.{level_of, counter_of, view, open_end, private_len}
use Rattle.meaning.specs.Ccm.{nonce_of, Opened, unsealed}
use Rattle.meaning.specs.Site.{store_of}
use Rattle.meaning.specs.Receive.{report, private_of, raise, raised_in, settle, Judged, Received, Outcome, outcome, write}

abbrev pub key_mode : ℕ → ℕ → ℕ
key_mode level mode = pick (eqb level 0) 0 mode

-- a frame b without security: the answer r, and the output o' that was o
pub record Plainly (b o : List ℕ) (r : Received) (o' : List ℕ) : Type 0 where
  pub answer : r ≡ report (view b) 0 0
  pub out : o' ≡ beside (private_of (view b) b) o

-- a frame opened by the block function E under a nonce: the tag's verdict, and the text in the scratch
abbrev pub opened_with : (List ℕ → List ℕ) → List ℕ → List ℕ → Opened
opened_with E nonce b =
    unsealed E nonce (level_of (view b).aux) (take (open_end (view b).cuts) b) (private_of (view b) b)
    (drop (open_end (view b).cuts + private_len (view b)) b)

pub record OpenedWith (E : List ℕ → List ℕ) (nonce b x : List ℕ) (right : Bool) (x' : List ℕ) : Type 0 where
  pub verdict : right ≡ (opened_with E nonce b).right
  pub text : x' ≡ beside (opened_with E nonce b).text x

-- an accepted secured frame b from device d with counter c: its text is in front of the scratch x
unfoldable pub committed : List ℕ → List ℕ → List ℕ → List ℕ → ℕ → ℕ → Outcome
committed s b o x d c =
    outcome (report (view b) (level_of (view b).aux) (suc d)) (raised_in (raise 0 d c) s) (beside (take (private_len (view b)) x) o)

-- what is lent after the frame b was judged
unfoldable pub settled : List ℕ → List ℕ → List ℕ → Judged → Outcome
settled s b o j = write s o (settle (store_of s) (view b) b j)

-- the nonce of frame b from the device with extended address e
unfoldable pub nonce_in : List ℕ → ℕ → List ℕ
nonce_in b e = nonce_of e (counter_of (view b).aux) (level_of (view b).aux)

-- What the writing functions promise, and what they ask. Assumes nothing: these are definitions.
-- Laid    octets stand in front of a buffer, n of them; all other octets stay
-- Small   a header's fields are in range
-- Ready   what a frame is written from is in range, and the frame has at most 127 octets
-- closed  cipher text and tag, as they stand in a frame
-- secured_by  a frame under the block cipher E without its FCS: a is open to all, p private
use Rattle.std.specs.Prelude.{◌≡◌, List, ◌++◌, ℕ, ◌+◌, ◌≤◌, length}
use Rattle.std.proofs.lemmas.List.Edits.{sets}
use Rattle.meaning.specs.Frame.{tag_len}
use Rattle.meaning.specs.Ccm.{Sealed, sealed}
use Rattle.meaning.specs.Build.{head_octets, aux_octets}
use Rattle.meaning.specs.declared.Header.{Header}
use Rattle.meaning.specs.declared.Request.{Request}

pub record Laid (d xs : List ℕ) (n : ℕ) (d' : List ℕ) : Type 0 where
  pub next : n ≡ length xs
  pub same : d' ≡ sets d 0 xs

pub record Small (h : Header) : Type 0 where
  pub kind : h.kind ≤ 3
  pub security : h.security ≤ 1
  pub pending : h.pending ≤ 1
  pub request : h.request ≤ 1
  pub compression : h.compression ≤ 1
  pub version : h.version ≤ 1
  pub to : h.destination.mode ≤ 3
  pub from : h.source.mode ≤ 3

pub record Ready (h : Header) (q : Request) (o p : List ℕ) : Type 0 where
  pub small : Small h
  pub level : q.level ≤ 7
  pub mode : q.keymode ≤ 3
  pub fits : length (head_octets h) + length (aux_octets q 0) + length o + length p + tag_len q.level + 2 ≤ 127

unfoldable pub closed : Sealed → List ℕ
closed s = s.cipher ++ s.tag

unfoldable pub secured_by : (List ℕ → List ℕ) → List ℕ → ℕ → List ℕ → List ℕ → List ℕ
secured_by E nonce l a p = a ++ closed (sealed E nonce l a p)

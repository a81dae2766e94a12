-- What the functions of this crate give, in the words of the standard's definitions. Assumes nothing: these are definitions.
-- chain_over, chain_data   the chaining value after a list, zeros to a whole block; after authenticated data
-- whole_tag   the sixteen octets that a tag is cut from
-- crypt_by    a message as its level enciphers it
-- tag_by      the same sixteen by level: below 4 all is authenticated data
-- Sealing    a frame sealed in place
-- Opening    what opening a body says and leaves
use Rattle.std.specs.Prelude.{◌≡◌, Bool, List, [], ◌++◌, ℕ, ◌+◌, ◌/◌, length, take, drop}
use Rattle.meaning.specs.Octets.{pick, beside, part}
use Rattle.meaning.specs.Frame.{tag_len, enciphers}
use Rattle.meaning.specs.Ccm.{xor_by, padded, data_blocks, blocks_of, counter_block, chain, mac_of, crypt, sealed, unsealed}

module _ (E : List ℕ → List ℕ) where
  unfoldable pub chain_over : List ℕ → List ℕ → List ℕ
  chain_over x s = chain E x (length (padded s) / 16) (padded s)

  unfoldable pub chain_data : List ℕ → List ℕ → List ℕ
  chain_data x a = chain E x (length (data_blocks a) / 16) (data_blocks a)

  unfoldable pub whole_tag : List ℕ → ℕ → List ℕ → List ℕ → List ℕ
  whole_tag nonce m a q = xor_by (mac_of E (blocks_of nonce m a q)) (E (counter_block nonce 0))

  unfoldable pub crypt_by : List ℕ → ℕ → List ℕ → List ℕ
  crypt_by nonce l q = pick (enciphers l) (crypt E nonce q) q

  unfoldable pub tag_by : List ℕ → ℕ → List ℕ → ℕ → List ℕ → List ℕ
  tag_by nonce l clear n text = pick (enciphers l) (whole_tag nonce (tag_len l) (take n clear) text) (whole_tag nonce (tag_len l) clear [])

  -- of the frame f the first n octets stay, and the others become cipher text; the tag is cut from r
  pub record Sealing (nonce : List ℕ) (l n : ℕ) (f exit r : List ℕ) : Type 0 where
    pub frame : exit ≡ take n f ++ (sealed E nonce l (take n f) (drop n f)).cipher
    pub tag : take (tag_len l) r ≡ (sealed E nonce l (take n f) (drop n f)).tag
    pub whole : r ≡ tag_by nonce l f n (drop n f)

  -- body is n octets of data, p of cipher text and the tag; the text stands in front of the scratch
  pub record Opening (nonce : List ℕ) (l : ℕ) (body : List ℕ) (n p : ℕ) (scratch exit : List ℕ) (r : Bool) : Type 0 where
    pub right : r ≡ (unsealed E nonce l (take n body) (part n p body) (drop (n + p) body)).right
    pub text : exit ≡ beside (unsealed E nonce l (take n body) (part n p body) (drop (n + p) body)).text scratch

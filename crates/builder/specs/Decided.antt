-- The order of a build request's refusals, apart from what is written. Assumes nothing: these are definitions.
-- keyed     the key of the lookup record found
-- chosen    statuses 14, 11, or the key
-- decided   where the output has room: statuses 17, 8, 16 and those, or the key, none for a frame without security
-- decided_at the same, of the site's own tables
-- body_by   the frame that is made with a key or none, without its FCS
use Rattle.std.specs.Prelude.{ℕ, ◌||◌, List, leb, eqb, Option, Some, None, Result, Ok, Err}
use Rattle.meaning.specs.Octets.{pick}
use Rattle.meaning.specs.Records.{keys, lookups, security_on, extended_address, key_at}
use Rattle.meaning.specs.Site.{settings_of, body, store_of}
use Rattle.meaning.specs.Steps.{peer_of, key_row, key_of}
use Rattle.meaning.specs.Build.{fitted, header_by, head_octets, aux_octets, request_right, plain_body, secured_body, frame_len}
use Rattle.meaning.specs.declared.Refusal.{Refusal}
use Rattle.meaning.specs.declared.Refusal.TheVariants.{UnsupportedSecurity, UnavailableKey, CounterError, FrameTooLong, InvalidParameter}
use Rattle.meaning.specs.declared.Request.{Request}

unfoldable pub keyed : List ℕ → Option ℕ → Result ℕ Refusal
keyed b None = Err UnavailableKey
keyed b (Some i) = Ok (key_of b i)

-- with a key, or the refusal
unfoldable pub under : Result ℕ Refusal → Result (Option ℕ) Refusal
under (Ok k) = Ok (Some k)
under (Err r) = Err r

-- settings t, lookups b, own counter c
module _ (t b : List ℕ) (c : ℕ) (q : Request) where
  unfoldable pub chosen : Result ℕ Refusal
  chosen =
      pick (eqb c 0xffff_ffff) (Err CounterError)
      (keyed b (key_row b t q.keymode q.keyindex q.keysource (peer_of t (fitted q.destination))))

  unfoldable pub decided : List ℕ → List ℕ → Result (Option ℕ) Refusal
  decided o p =
      pick (request_right t q o p)
      (pick (eqb q.level 0 || security_on t)
      (pick (leb (frame_len t q o p) 127) (pick (eqb q.level 0) (Ok None) (under chosen)) (Err FrameTooLong))
      (Err UnsupportedSecurity))
      (Err InvalidParameter)

-- of a site
unfoldable pub decided_at : List ℕ → Request → List ℕ → List ℕ → Result (Option ℕ) Refusal
decided_at s q o p = decided (settings_of s) (body s lookups) (store_of s).own q o p

-- the frame that is made without security, or under key k, without its FCS
unfoldable pub body_by : List ℕ → Request → List ℕ → List ℕ → Option ℕ → List ℕ
body_by s q o p None = plain_body (head_octets (header_by (settings_of s) q)) o p
body_by s q o p (Some k) =
    secured_body (key_at (body s keys) k) (extended_address (settings_of s)) (store_of s).own q.level
    (head_octets (header_by (settings_of s) q)) (aux_octets q (store_of s).own) o p

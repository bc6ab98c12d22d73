-- What files and streams in memory hold, and when their calls fail.
use Rattle.std.specs.Prelude.{◌≡◌, ◌⊎◌, ◌↔◌, ℕ, ◌-◌, ◌<◌, min, List, length, Bool, IsTrue, Option, None, Result, IfOk, IfSome, IsErr, OnErr, OnOk}
use Rattle.std.specs.Io.{ReadsAtMost}
use Rattle.ln_base.specs.Outside.{Copies, HasCause, Shelf, Shown, counted, counted_on, port_bytes}
use Rattle.ln_base.specs.declared.outside.Failed.{Failed}
use Rattle.ln_base.specs.declared.outside.Port.{Port}

-- files in memory: names with their bytes, the numbers of the calls that fail, and how many calls, faults and bytes that were read there were
pub record FilesHeld : Type 0 where
  pub shelf : Shelf
  pub fails : List ℕ
  pub calls : ℕ
  pub faults : ℕ
  pub given : ℕ

-- two streams in memory: their bytes, the room of each, the most that one `put` takes, the numbers of the calls that fail, and how
-- many calls and faults there were
pub record PortsHeld : Type 0 where
  pub out : List ℕ
  pub err : List ℕ
  pub room : ℕ
  pub most : ℕ
  pub fails : List ℕ
  pub calls : ℕ
  pub faults : ℕ

-- as many bytes of a file from a place on as there are and as there is room for
abbrev pub handed : List ℕ → ℕ → ℕ → ℕ
handed content at room = min room (length content - at)

-- how bytes of a file that may be missing were read: each field is the clause of `read_at` with that name
pub record HandedOver (content : Option (List ℕ)) (at : ℕ) (listed : Bool) (before count had has : ℕ) (r : Result ℕ Failed)
    (buf : List ℕ) : Type 0 where
  pub bound : ReadsAtMost r buf
  pub bytes : IfOk r (λ n. IfSome content (λ bs. Copies bs at n buf))
  pub absent : content ≡ None → IsErr r × (count ≡ before)
  pub cause : HasCause before count r (content ≡ None)
  pub step : OnErr r ((count ≡ counted before) ⊎ (content ≡ None))
  pub fine : OnOk r (count ≡ before)
  pub given : IfOk r (λ n. has ≡ counted_on had n)
  pub none : OnErr r (has ≡ had)
  pub exact : IsErr r ↔ (IsTrue listed ⊎ (content ≡ None))
  pub handed : IfOk r (λ n. IfSome content (λ bs. n ≡ handed bs at (length buf)))

-- the bytes that were written to a stream
abbrev pub held : Port → PortsHeld → List ℕ
held port ports = port_bytes port ports.out ports.err

-- the bytes that were written to both streams
abbrev pub shown_of : PortsHeld → Shown
shown_of ports = record { out = ports.out; err = ports.err }

-- the remaining room of a stream
abbrev pub room_left : Port → PortsHeld → ℕ
room_left port ports = ports.room - length (held port ports)

-- there are bytes, and no room for any
abbrev pub IsFull : Port → PortsHeld → List ℕ → Type 0
IsFull port ports bytes = (0 < length bytes) × (room_left port ports ≡ 0)

-- how many of these bytes one `put` takes
abbrev pub taken : Port → PortsHeld → List ℕ → ℕ
taken port ports bytes = min (min (length bytes) ports.most) (room_left port ports)

-- room, most and the list of failing calls stay
abbrev pub SameLimits : PortsHeld → PortsHeld → Type 0
SameLimits was now = (now.room ≡ was.room) × (now.most ≡ was.most) × (now.fails ≡ was.fails)

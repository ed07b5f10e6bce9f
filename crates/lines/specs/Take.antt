-- Internal: what the readers take from the front of a list of bytes. The promises of Reads follow from it by laws, so nobody need believe it.
use Rattle.std.specs.Prelude.{ℕ, zero, suc, ◌+◌, ◌*◌, ◌-◌, ◌^◌, Bool, ◌&&◌, List, [], ◌∷◌, Option, Some, None, option_map, option_and_then, ltb, leb, eqb, if◌then◌else◌}
use Rattle.breaker.specs.declared.Ticket.{Ticket}
use Rattle.lines.specs.declared.Call.{Call}
use Rattle.lines.specs.declared.Order.{Order}
use Rattle.lines.specs.declared.Order.TheVariants.{Admit, Success, Failure, Abort, Reset}
use Rattle.lines.specs.declared.Header.{Header}
use Rattle.lines.specs.declared.HeaderPolicy.{HeaderPolicy}
use Rattle.lines.specs.declared.HeaderPolicy.TheVariants.{Consecutive, Ratio, Windowed}
use Rattle.lines.specs.Reads.{Read}

-- one reader after another
infixl 10 ◌>>=◌
abbrev pub ◌>>=◌ : {A B : Type 0} → Option A → (A → Option B) → Option B
o >>= f = option_and_then f o

-- what follows this byte at the front
unfoldable pub after : ℕ → List ℕ → Option (List ℕ)
after byte [] = None
after byte (b ∷ bs) = if eqb b byte then Some bs else None

-- ---- numbers

-- whether a byte is a decimal digit
abbrev pub is_decimal : ℕ → Bool
is_decimal b = leb 48 b && leb b 57

-- the digits behind v, where the number that they make stays below 2 ^ 64
unfoldable pub take_digits : ℕ → List ℕ → Read ℕ
take_digits v [] = Some (v, [])
take_digits v (b ∷ bs) =
    if is_decimal b then (if ltb (v * 10 + (b - 48)) (2 ^ 64) then take_digits (v * 10 + (b - 48)) bs else None)
    else Some (v, b ∷ bs)

-- a decimal; behind a first digit 0 nothing more is taken
unfoldable pub take_decimal : List ℕ → Read ℕ
take_decimal [] = None
take_decimal (b ∷ bs) = if eqb b 48 then Some (0, bs) else if is_decimal b then take_digits 0 (b ∷ bs) else None

-- the value of a digit, in lower case
unfoldable pub hex_digit : ℕ → Option ℕ
hex_digit b = if leb 48 b && leb b 57 then Some (b - 48) else if leb 97 b && leb b 102 then Some (b - 87) else None

-- k hexadecimal digits, behind v
unfoldable pub take_hex : ℕ → ℕ → List ℕ → Read ℕ
take_hex zero v bs = Some (v, bs)
take_hex (suc k) v [] = None
take_hex (suc k) v (b ∷ bs) = hex_digit b >>= (λ d. take_hex k (v * 16 + d) bs)

-- ---- fields: a space and a number

unfoldable pub take_field : List ℕ → Read ℕ
take_field bs = after 32 bs >>= take_decimal

unfoldable pub take_narrow : List ℕ → Read ℕ
take_narrow bs = take_field bs >>= (λ p. if ltb p.0 (2 ^ 32) then Some p else None)

unfoldable pub take_bits : List ℕ → Read ℕ
take_bits bs = after 32 bs >>= take_hex 16 0

unfoldable pub take_ticket : List ℕ → Read Ticket
take_ticket bs = do
  generation ← take_field bs
  flag ← take_field generation.1
  if leb flag.0 1 then Some (record { generation = generation.0; probe = eqb flag.0 1 }, flag.1) else None

-- ---- lines

-- what a call with a ticket is, by its letter
abbrev pub with_ticket : ℕ → Ticket → Option Order
with_ticket k p =
    if eqb k 83 then Some (Success p)
    else if eqb k 70 then Some (Failure p)
    else if eqb k 88 then Some (Abort p)
    else None

abbrev pub take_ticketed : ℕ → List ℕ → Read Order
take_ticketed k bs = take_ticket bs >>= (λ p. option_map (λ o. (o, p.1)) (with_ticket k p.0))

-- what a call is: its letter, and its ticket where it has one
unfoldable pub take_order : List ℕ → Read Order
take_order [] = None
take_order (k ∷ bs) =
    if eqb k 65 then Some (Admit, bs)
    else if eqb k 90 then Some (Reset, bs)
    else take_ticketed k bs

unfoldable pub take_call : List ℕ → Read Call
take_call bs = do
  reading ← take_decimal bs
  letter ← after 32 reading.1
  order ← take_order letter
  rest ← after 10 order.1
  Some (record { reading = reading.0; order = order.0 }, rest)

-- the policy: its letter and its own fields
unfoldable pub take_consecutive : List ℕ → Read HeaderPolicy
take_consecutive bs = do
  n ← take_narrow bs
  Some (Consecutive n.0, n.1)

unfoldable pub take_ratio : List ℕ → Read HeaderPolicy
take_ratio bs = do
  window ← take_narrow bs
  bits ← take_bits window.1
  least ← take_narrow bits.1
  Some (Ratio window.0 bits.0 least.0, least.1)

unfoldable pub take_windowed : List ℕ → Read HeaderPolicy
take_windowed bs = do
  failures ← take_narrow bs
  period ← take_field failures.1
  Some (Windowed failures.0 period.0, period.1)

unfoldable pub take_policy : List ℕ → Read HeaderPolicy
take_policy [] = None
take_policy (k ∷ bs) =
    if eqb k 67 then take_consecutive bs
    else if eqb k 82 then take_ratio bs
    else if eqb k 87 then take_windowed bs
    else None

unfoldable pub take_header : List ℕ → Read Header
take_header bs = do
  policy ← take_policy bs
  cooldown ← take_field policy.1
  trials ← take_narrow cooldown.1
  required ← take_narrow trials.1
  rest ← after 10 required.1
  Some (record { policy = policy.0; cooldown_ms = cooldown.0; trials = trials.0; required = required.0 }, rest)

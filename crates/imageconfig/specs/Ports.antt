-- A port: `port` or `port/protocol` (Dockerfile reference, EXPOSE; ranges are no ports: own).
use Rattle.std.specs.Prelude.{ℕ, ◌==◌, ◌^◌, Bool, false, List, [], ◌∷◌, ◌++◌, length, nat_lt, Option, Some, None, codes, if◌then◌else◌}
use Rattle.std.specs.List.{position_or_len, before_first, after_first}
use Rattle.std.specs.Str.{str_eq_ignore_ascii_case}
use Rattle.ascii.specs.Numbers.{decimal_of}

-- a number begins with a zero
abbrev pub has_zero : List ℕ → Bool
has_zero [] = false
has_zero (c ∷ cs) = c == 48

-- a number that is there is one of a port
abbrev pub is_port_number : Option ℕ → Bool
is_port_number None = false
is_port_number (Some n) = nat_lt n (2 ^ 16)

-- a port's number: decimal digits without leading zeros, so 1 to 65535
abbrev pub is_port : List ℕ → Bool
is_port text = if has_zero text then false else is_port_number (decimal_of text)

-- the protocol that a text names, in lower case
abbrev pub protocol_of : List ℕ → Option (List ℕ)
protocol_of text =
    if str_eq_ignore_ascii_case text (codes "tcp") then Some (codes "tcp")
    else if str_eq_ignore_ascii_case text (codes "udp") then Some (codes "udp") else None

-- the key of a number and a protocol, where both are right
abbrev pub key_of : List ℕ → Option (List ℕ) → Option (List ℕ)
key_of port None = None
key_of port (Some protocol) = if is_port port then Some (port ++ 47 ∷ protocol) else None

-- the key that a port has, where the text is one: it is cut at its first `/`, and without one its protocol is `tcp`
unfoldable pub port_key : List ℕ → Option (List ℕ)
port_key text =
    if position_or_len (λ c. c == 47) text == length text then key_of text (Some (codes "tcp"))
    else key_of (before_first (λ c. c == 47) text) (protocol_of (after_first (λ c. c == 47) text))

use Rattle.std.proofs.Common.{◌≡◌, ◌≤◌, length, take}
use Rattle.std.specs.Str.Parse.{AllDigits, digits_value}
use Rattle.rt_cidr.specs.inside.Front.{capped}
use Rattle.rt_cidr.proofs.decimals.leading_digits.Given as goal

-- the bytes read so far are digits, and `value` is their value, capped
abbrev pub invariant-loop-byte : goal.invariant-loop-byte
invariant-loop-byte l = record {
  count : l.len ≡ l.byte-index;
  within : l.len ≤ length l.text;
  digits : AllDigits 10 (take l.len l.text);
  value : l.value ≡ capped (digits_value 10 (take l.len l.text));
}

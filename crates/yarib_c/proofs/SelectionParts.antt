-- The part of the prefixes that a selection has.
use Rattle.std.proofs.Common.{◌≡◌, ℕ, subst, arith}
use Rattle.rt_cidr.specs.declared.prefixes.Prefix.{Prefix}
use Rattle.rt_cidr.specs.Cidr.{IsPrefix}
use Rattle.yarib_c.specs.declared.selections.YaribSelection.{YaribSelection}
use Rattle.yarib_c.specs.inside.Parts.{HasPart}

-- part 0 needs no prefix
pub all_parts : (c : YaribSelection) → c.part ≡ 0 → HasPart c
all_parts c is = ((λ h. h.0 is), (λ h. h.0 is))

-- any other part has one
pub prefix_part : (c : YaribSelection) (p : Prefix) → p.base ≡ c.base → p.len ≡ c.len → HasPart c
prefix_part c p base len =
    let short = p.is_prefix.short in
    ((λ h. omega (arith, h.1, short, len)), (λ h. h.1 (subst (λ (n : ℕ). IsPrefix c.base n) len (subst (λ (b : ℕ). IsPrefix b p.len) base p.is_prefix))))

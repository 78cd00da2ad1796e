-- What a descent of a given number of steps finds, and the effect of a write through it on a link.
use Rattle.std.specs.Prelude.{ℕ, zero, suc, nat_lt, nat_le, Option, Some, None, if◌then◌else◌}
use Rattle.rt_cidr.specs.declared.prefixes.Prefix.{Prefix}
use Rattle.rt_trie.specs.declared.nodes.Link.{Link, Empty, Leaf, Fork', Full'}
use Rattle.rt_trie.specs.inside.Blocks.{is_key}
use Rattle.rt_trie.specs.Halves.{middle_at}

-- the value at p, at most `d` nodes down, found by the numbers that the links keep
abbrev pub found : {V A : Type 0} → ℕ → Link V A → Prefix → Option V
found zero link p = None
found (suc d) Empty p = None
found (suc d) (Leaf len base b) p = if is_key len base p then Some b.value.value else None
found (suc d) (Fork' len base x left right q) p =
    if nat_le p.len len then None else (if nat_lt p.base (middle_at len base) then found d left p else found d right p)
found (suc d) (Full' len base x left right q v) p =
    if nat_le p.len len then (if is_key len base p then v else None) else (if nat_lt p.base (middle_at len base) then found d left p else found d right p)

-- the value replaced by w, if there is one
abbrev pub overwritten : {V : Type 0} → Option V → V → Option V
overwritten None w = None
overwritten (Some v) w = Some w

-- the link with the value that `found` returns replaced by w
abbrev pub written : {V A : Type 0} → ℕ → Link V A → Prefix → V → Link V A
written zero link p w = link
written (suc d) Empty p w = Empty
written (suc d) (Leaf len base b) p w = Leaf len base (record b { value = record b.value { value = if is_key len base p then w else b.value.value } })
written (suc d) (Fork' len base x left right q) p w =
    Fork' len base x (if nat_le p.len len then left else (if nat_lt p.base (middle_at len base) then written d left p w else left))
    (if nat_le p.len len then right else (if nat_lt p.base (middle_at len base) then right else written d right p w)) q
written (suc d) (Full' len base x left right q v) p w =
    Full' len base x (if nat_le p.len len then left else (if nat_lt p.base (middle_at len base) then written d left p w else left))
    (if nat_le p.len len then right else (if nat_lt p.base (middle_at len base) then right else written d right p w)) q
    (if nat_le p.len len then (if is_key len base p then overwritten v w else v) else v)

-- Values of the examples of rt_rib: prefixes, addresses, routes, offers and journals.
use Rattle.std.proofs.Common.{ℕ, ◌+◌, List, [], ◌∷◌, refl, arith}
use Rattle.rt_cidr.specs.declared.address.Addr.{Addr}
use Rattle.rt_cidr.specs.declared.prefixes.Prefix.{Prefix}
use Rattle.table_examples.proofs.Cidr.{everything, ten_8}
use Rattle.rt_rib.specs.declared.routes.Hop.{Hop}
use Rattle.rt_rib.specs.declared.routes.Hop.TheVariants.{Via, Discard}
use Rattle.rt_rib.specs.declared.routes.Route.{Route}
use Rattle.rt_rib.specs.declared.commands.Cmd.{Cmd}
use Rattle.rt_rib.specs.declared.commands.Cmd.TheVariants.{Add, Withdraw, Lookup, Purge}
use Rattle.rt_rib.specs.declared.commands.Reply.{Reply}
use Rattle.rt_rib.specs.declared.commands.Reply.TheVariants.{Added, Withdrawn, Found, Purged}
use Rattle.rt_rib.specs.declared.commands.Entry.{Entry}
use Rattle.rt_rib.specs.declared.offers.Offer.{Offer}
use Rattle.rt_rib.specs.Maps.{Map}

-- prefixes of the examples, besides those of rt_cidr: 128.0.0.0/1 and 10.1.0.0/16
abbrev pub upper_half : Prefix
upper_half = record { base = 2147483648; len = 1; is_prefix = record { short = omega arith; fits = omega arith; clear = refl } }

abbrev pub ten_1_16 : Prefix
ten_1_16 = record { base = 167837696; len = 16; is_prefix = record { short = omega arith; fits = omega arith; clear = refl } }

-- addresses: 10.1.2.3, 10.2.3.4, 198.51.100.7, and the last one
abbrev pub at_10_1_2_3 : Addr
at_10_1_2_3 = record { 0 = 167838211 }

abbrev pub at_10_2_3_4 : Addr
at_10_2_3_4 = record { 0 = 167904004 }

abbrev pub at_198_51_100_7 : Addr
at_198_51_100_7 = record { 0 = 3325256711 }

abbrev pub at_last : Addr
at_last = record { 0 = 4294967295 }

-- a feed's route to a prefix with a preference, and three whose prefixes contain one another
abbrev pub route : Prefix → ℕ → ℕ → Route
route prefix feed pref = record { prefix = prefix; feed = feed; pref = pref; hop = Discard }

abbrev pub nested : List Route
nested = route everything 1 200 ∷ route ten_8 1 100 ∷ route ten_1_16 1 100 ∷ []

-- a feed's command and its reply
abbrev pub entry : ℕ → Cmd → Reply → Entry
entry feed cmd reply = record { feed = feed; cmd = cmd; reply = reply }

-- feed 1 looks up an address before and after it inserts a route to it, in a table with a limit of one route
abbrev pub two_look_ups : Reply → List Entry
two_look_ups first =
    entry 1 (Lookup at_10_1_2_3) first ∷ entry 1 (Add ten_8 5 Discard) Added
    ∷ entry 1 (Lookup at_10_1_2_3) (Found (route ten_8 1 5)) ∷ []

-- the commands of the tutorial's three files, one after another, and their replies
abbrev pub ten_2_16 : Prefix
ten_2_16 = record { base = 167903232; len = 16; is_prefix = record { short = omega arith; fits = omega arith; clear = refl } }

abbrev pub ten_3_16 : Prefix
ten_3_16 = record { base = 167968768; len = 16; is_prefix = record { short = omega arith; fits = omega arith; clear = refl } }

abbrev pub at_10_9_0_1 : Addr
at_10_9_0_1 = record { 0 = 168361985 }

abbrev pub ten_9_16 : Prefix
ten_9_16 = record { base = 168361984; len = 16; is_prefix = record { short = omega arith; fits = omega arith; clear = refl } }

abbrev pub via_192_0_2 : ℕ → Hop
via_192_0_2 last = Via (record { 0 = 3221225984 + last })

abbrev pub route_via : Prefix → ℕ → ℕ → Hop → Route
route_via prefix feed pref hop = record { prefix = prefix; feed = feed; pref = pref; hop = hop }

abbrev pub tutorial : List Entry
tutorial =
    entry 1 (Add ten_8 50 (via_192_0_2 1)) Added ∷ entry 1 (Add ten_1_16 10 (via_192_0_2 1)) Added
    ∷ entry 1 (Lookup at_10_1_2_3) (Found (route_via ten_1_16 1 10 (via_192_0_2 1)))
    ∷ entry 2 (Add ten_8 20 (via_192_0_2 2)) Added ∷ entry 2 (Add ten_2_16 20 (via_192_0_2 2)) Added
    ∷ entry 2 Purge (Purged 2) ∷ entry 2 (Add ten_8 30 (via_192_0_2 2)) Added
    ∷ entry 3 (Add ten_9_16 10 Discard) Added ∷ entry 3 (Add ten_3_16 10 (via_192_0_2 3)) Added
    ∷ entry 3 (Withdraw ten_3_16) Withdrawn ∷ entry 3 (Lookup at_10_9_0_1) (Found (route_via ten_9_16 3 10 Discard)) ∷ []

-- a feed's offer, and a map of two prefixes
abbrev pub offer : ℕ → ℕ → Offer
offer feed pref = record { feed = feed; pref = pref; hop = Discard }

abbrev pub two_prefixes : Map
two_prefixes = (ten_8, offer 2 30 ∷ offer 1 50 ∷ []) ∷ (ten_1_16, offer 1 10 ∷ []) ∷ []

-- The sites of the examples: EIDs, mappings, settings.
use Rattle.std.specs.Prelude.{ℕ, ◌+◌, ◌^◌, nat_lt, Bool, true, false, IsTrue, List, [], ◌∷◌, map, replicate, reverse, Some, None, refl}
use Rattle.std.specs.List.{range_with_len}
use Rattle.std.proofs.lemmas.Bool.{ltb-true}
use Rattle.ip_headers.specs.Addr.{is_prefix}
use Rattle.ip_headers.specs.declared.addr.Addr.{Addr}
use Rattle.ip_headers.specs.declared.addr.Addr.TheVariants.{V4, V6}
use Rattle.mapping_records.specs.declared.eid.Eid.{Eid}
use Rattle.mapping_records.specs.declared.record.Locator.{Locator}
use Rattle.mapping_records.specs.declared.record.Record.{Record}
use Rattle.lisp_settings.specs.declared.settings.Change.{Change}
use Rattle.lisp_settings.specs.declared.settings.Database.{Database}
use Rattle.lisp_settings.specs.declared.settings.OwnLocator.{OwnLocator}
use Rattle.lisp_settings.specs.declared.settings.Settings.{Settings}

-- the EID of an instance, an address and a length, which are in range
abbrev pub eid : (iid : ℕ) (addr : Addr) (len : ℕ) → IsTrue (nat_lt iid (2 ^ 24)) → IsTrue (is_prefix addr len) → Eid
eid iid addr len below lawful =
    record { iid = iid; prefix = record { addr = addr; len = len; lawful = lawful }; in_range = ltb-true iid (2 ^ 24) below }

-- 10.2.0.0/16 of instance 0; `wide`, `narrow` and `host` are 10.2.0.0/16, 10.2.0.0/24 and 10.2.0.9/32 of instance 100
abbrev pub wide_of_0 : Eid
wide_of_0 = eid 0 (V4 0x0a020000) 16 refl refl

abbrev pub wide : Eid
wide = eid 100 (V4 0x0a020000) 16 refl refl

abbrev pub narrow : Eid
narrow = eid 100 (V4 0x0a020000) 24 refl refl

abbrev pub host : Eid
host = eid 100 (V4 0x0a020009) 32 refl refl

-- 10.2.0.0/24 of instance 0; `next_of_0` is 10.3.0.0/16 of instance 0
abbrev pub narrow_of_0 : Eid
narrow_of_0 = eid 0 (V4 0x0a020000) 24 refl refl

abbrev pub next_of_0 : Eid
next_of_0 = eid 0 (V4 0x0a030000) 16 refl refl

-- 10.1.0.0/16 of instance 0; `part_of_0` is 10.1.0.0/24 of instance 0
abbrev pub home_of_0 : Eid
home_of_0 = eid 0 (V4 0x0a010000) 16 refl refl

abbrev pub part_of_0 : Eid
part_of_0 = eid 0 (V4 0x0a010000) 24 refl refl

-- the site's own locator 192.0.2.1; `far` is 198.51.100.7, a locator of another site
abbrev pub near : Addr
near = V4 0xc0000201

abbrev pub far : Addr
far = V4 0xc6336407

-- the address n above 198.51.100.0; `near_in_ipv6` is 2001:db8::1 of the site, `far_in_ipv6` is 2001:db8::2 of another
-- site
abbrev pub far_off : ℕ → Addr
far_off n = V4 (0xc6336400 + n)

abbrev pub near_in_ipv6 : Addr
near_in_ipv6 = V6 0x20010db8000000000000000000000001

abbrev pub far_in_ipv6 : Addr
far_in_ipv6 = V6 0x20010db8000000000000000000000002

-- an own locator of priority 1 and weight 1 that is up
abbrev pub own : Addr → OwnLocator
own addr = record { addr = addr; priority = 1; weight = 1; up = true }

-- a locator of priority 1 and weight 100 that is up
abbrev pub locator : Addr → Locator
locator addr =
    record { addr = addr; priority = 1; weight = 100; m_priority = 255; m_weight = 0; local = false; probed = false; reachable = true }

-- a mapping of an EID to locators, with its TTL in minutes
abbrev pub mapping : ℕ → Eid → List Locator → Record
mapping ttl eid locators =
    record { ttl = ttl; action = 0; authoritative = true; version = 0; eid = eid; locators = locators }

-- a prefix of the site, without a version
abbrev pub database : Eid → Database
database eid = record { eid = eid; version = 0 }

-- a site with the prefix 10.1.0.0/16, and a static mapping of 10.2.0.0/16 to 198.51.100.7
abbrev pub static_site : Settings
static_site = record {
  seed = replicate 32 0;
  nonces = [];
  resolver = None;
  ttl = 1440;
  probe = false;
  echo = false;
  locators = own near ∷ [];
  attachments = record { vlan = 0; iid = 0 } ∷ [];
  databases = database (eid 0 (V4 0x0a010000) 16 refl refl) ∷ [];
  mappings = mapping 1440 wide_of_0 (locator far ∷ []) ∷ [];
  changes = [];
  limits = [];
}

-- the site `static_site` with a version of its prefix (`home`) and one of its mapping (`other`), and with two nonces
abbrev pub site_of_versions : ℕ → ℕ → Settings
site_of_versions home other = record static_site {
  nonces = 0x0102030405060708 ∷ 0x1112131415161718 ∷ [];
  databases = record (database home_of_0) { version = home } ∷ [];
  mappings = record (mapping 1440 wide_of_0 (locator far ∷ [])) { version = other } ∷ [];
}

-- the site `static_site` with version 5 of its prefix, version 7 of its mapping, and a second prefix, 10.1.0.0/24, of
-- version 9
abbrev pub site_of_two_versions : Settings
site_of_two_versions = record (site_of_versions 5 7) {
  databases = record (database home_of_0) { version = 5 } ∷ record (database part_of_0) { version = 9 } ∷ [];
}

-- the site `static_site` with version 7 of its mapping and none of its prefix, and with a resolver
abbrev pub site_that_may_ask : Settings
site_that_may_ask = record (site_of_versions 0 7) { resolver = Some (V4 0xcb007109) }

-- the site `static_site` with its mapping to these locators
abbrev pub site_with : List Locator → Settings
site_with locators = record static_site { mappings = mapping 1440 wide_of_0 locators ∷ [] }

-- the locators 198.51.100.7 and 198.51.100.8 of priority 1, with the weights 0 and 1, and 198.51.100.9 of priority 0, which is down
abbrev pub uneven : List Locator
uneven =
    record (locator far) { weight = 0 } ∷ record (locator (V4 0xc6336408)) { weight = 1 }
    ∷ record (locator (V4 0xc6336409)) { priority = 0; reachable = false } ∷ []

-- the site `static_site` with its mapping without locators and with that action
abbrev pub site_acting : ℕ → Settings
site_acting action = record static_site { mappings = record (mapping 1440 wide_of_0 []) { action = action } ∷ [] }

-- the site `static_site` with its own locator and that of the mapping in IPv6
abbrev pub site_over_ipv6 : Settings
site_over_ipv6 = record static_site {
  locators = own near_in_ipv6 ∷ [];
  mappings = mapping 1440 wide_of_0 (locator far_in_ipv6 ∷ []) ∷ [];
}

-- a site with the prefix 10.1.0.0/16 of instance 100 and the resolver 203.0.113.9, without mappings
abbrev pub asking_site : Settings
asking_site = record static_site {
  nonces = 0x0102030405060708 ∷ 0x1112131415161718 ∷ [];
  resolver = Some (V4 0xcb007109);
  attachments = record { vlan = 0; iid = 100 } ∷ [];
  databases = database (eid 100 (V4 0x0a010000) 16 refl refl) ∷ [];
  mappings = [];
}

-- the site `asking_site` with a static mapping to the nine locators 198.51.100.1 to 198.51.100.9
abbrev pub nine_locators : Settings
nine_locators = record asking_site {
  mappings = mapping 1440 wide (map (λ n. locator (far_off n)) (1 ∷ 2 ∷ 3 ∷ 4 ∷ 5 ∷ 6 ∷ 7 ∷ 8 ∷ 9 ∷ [])) ∷ [];
}

-- a site with the prefix 10.0.0.0/8, and within it 10.1.0.0/16, 10.1.1.0/24 and 10.1.2.0/24
abbrev pub nested_site : Settings
nested_site = record static_site {
  databases = map database
      (eid 0 (V4 0x0a000000) 8 refl refl ∷ eid 0 (V4 0x0a010000) 16 refl refl
      ∷ eid 0 (V4 0x0a010100) 24 refl refl ∷ eid 0 (V4 0x0a010200) 24 refl refl ∷ []);
  mappings = [];
}

-- the site `static_site` with the setting `probe` on
abbrev pub probing_site : Settings
probing_site = record static_site { probe = true; nonces = 0x0102030405060708 ∷ 0x1112131415161718 ∷ [] }

-- the site `static_site` with the setting `echo` on; `echoing_site_of_versions` also has the versions 5 and 7
abbrev pub echoing_site : Settings
echoing_site = record static_site { echo = true; nonces = 0xaa ∷ 0x1112131415161718 ∷ [] }

abbrev pub echoing_site_of_versions : Settings
echoing_site_of_versions = record (site_of_versions 5 7) { echo = true; nonces = 0xaa ∷ [] }

-- a site with these own locators and a mapping to these locators, which it probes, with the nonces 1 to 20
abbrev pub site_probing : List OwnLocator → List Locator → Settings
site_probing own locators = record static_site {
  probe = true;
  nonces = range_with_len 1 20;
  locators = own;
  mappings = mapping 1440 wide_of_0 locators ∷ [];
}

-- a site that probes, with own locators of both families, and a mapping to 2001:db8::2 and 198.51.100.9, .7 and .8
abbrev pub site_of_both : Settings
site_of_both =
    site_probing (own near ∷ own near_in_ipv6 ∷ [])
    (map locator (far_in_ipv6 ∷ far_off 9 ∷ far_off 7 ∷ far_off 8 ∷ []))

-- a site that probes, with a mapping to the seventeen locators 198.51.100.17 to 198.51.100.1
abbrev pub seventeen_locators : Settings
seventeen_locators =
    site_probing (own near ∷ []) (map (λ n. locator (far_off n)) (reverse (range_with_len 1 17)))

-- the site `probing_site` with a resolver
abbrev pub asking_and_probing_site : Settings
asking_and_probing_site = record probing_site { resolver = Some (V4 0xcb007109) }

-- ### own locators that go up and down

-- the site's second own locator, 192.0.2.2
abbrev pub near_too : Addr
near_too = V4 0xc0000202

-- the change of an own locator that goes up or down n seconds after the begin
abbrev pub change : ℕ → Addr → Bool → Change
change n address up = record { at = 1700000000 + n; address = address; up = up }

-- a site of version 5 with the own locators 192.0.2.1 and 192.0.2.2, and with these changes of them
abbrev pub site_with_changes : List Change → Settings
site_with_changes changes =
    record (site_of_versions 5 0) { locators = own near ∷ own near_too ∷ []; changes = changes }

-- the site of `site_with_changes`, whose first own locator goes down after a second
abbrev pub site_going_down : Settings
site_going_down = site_with_changes (change 1 near false ∷ [])

-- the site `asking_site`, whose own locator goes down after a second
abbrev pub asking_site_going_down : Settings
asking_site_going_down = record asking_site { changes = change 1 near false ∷ [] }

-- the site `site_going_down` with mappings to the locators 198.51.100.96 to 198.51.100.1, 32 each
abbrev pub site_of_96_locators : Settings
site_of_96_locators = record site_going_down {
  nonces = range_with_len 1 64;
  mappings =
      mapping 1440 wide_of_0 (map (λ n. locator (far_off n)) (reverse (range_with_len 65 32)))
      ∷ mapping 1440 narrow_of_0 (map (λ n. locator (far_off n)) (reverse (range_with_len 33 32)))
      ∷ mapping 1440 next_of_0 (map (λ n. locator (far_off n)) (reverse (range_with_len 1 32))) ∷ [];
}

-- the site `site_going_down` with mappings to an own locator, to one of priority 255, to one in IPv6, and twice to
-- 198.51.100.8
abbrev pub site_with_few_to_tell : Settings
site_with_few_to_tell = record site_going_down {
  mappings =
      mapping 1440 wide_of_0 (locator near_too ∷ record (locator far) { priority = 255 } ∷ locator (far_off 8) ∷ [])
      ∷ mapping 1440 narrow_of_0 (locator far_in_ipv6 ∷ locator (far_off 8) ∷ []) ∷ [];
}

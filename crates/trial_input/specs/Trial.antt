-- The input of a trial (this router's choice): settings of n mappings, and a capture of n + 1 frames.
use Rattle.std.specs.Prelude.{ℕ, ◌+◌, ◌*◌, ◌%◌, ◌^◌, ◌==◌, false, true, IsTrue, List, [], ◌∷◌, ◌++◌, map, replicate, None, refl}
use Rattle.std.specs.List.{range_with_len}
use Rattle.std.proofs.lemmas.Bool.{ltb-true}
use Rattle.std.proofs.Common.{ap}
use Rattle.std.proofs.Math.Nat.{mul-mod_left}
use Rattle.ip_headers.specs.Addr.{is_prefix}
use Rattle.ip_headers.specs.Canonical.{canonical_v4}
use Rattle.ip_headers.specs.Udp.{canonical_udp}
use Rattle.ip_headers.specs.declared.addr.Addr.TheVariants.{V4}
use Rattle.mapping_records.specs.Limits.{default_minutes}
use Rattle.mapping_records.specs.declared.eid.Eid.{Eid}
use Rattle.mapping_records.specs.declared.record.Record.{Record}
use Rattle.lisp_settings.specs.declared.settings.Settings.{Settings}
use Rattle.capture_events.specs.Events.{Packet}

-- the EID of an IPv4 prefix in instance 0
abbrev pub eid_v4 : (addr len : ℕ) → IsTrue (is_prefix (V4 addr) len) → Eid
eid_v4 addr len lawful = record {
  iid = 0;
  prefix = record { addr = V4 addr; len = len; lawful = lawful };
  in_range = ltb-true 0 (2 ^ 24) refl;
}

-- the first address of prefix i: 20.0.0.0 + 256 i
abbrev pub prefix_addr : ℕ → ℕ
prefix_addr i = (0x140000 + i) * 256

-- the last 8 bits of the first address of prefix i are 0
pub aligned : (i : ℕ) → IsTrue (is_prefix (V4 (prefix_addr i)) 24)
aligned i = ap (λ (low : ℕ). low == 0) (mul-mod_left (0x140000 + i) 256)

-- mapping i: 20.0.0.0 + 256 i of length 24, with the one locator 203.0.113.(1 + i mod 254)
abbrev pub trial_mapping : ℕ → Record
trial_mapping i = record {
  ttl = default_minutes;
  action = 0;
  authoritative = true;
  version = 0;
  eid = eid_v4 (prefix_addr i) 24 (aligned i);
  locators = record {
    addr = V4 (0xcb007101 + i % 254);
    priority = 1;
    weight = 1;
    m_priority = 255;
    m_weight = 0;
    local = false;
    probed = false;
    reachable = true;
  } ∷ [];
}

-- the settings of n mappings: the own locator 198.51.100.1, VLAN 0 in instance 0, the site 192.168.0.0/16
abbrev pub trial_settings : ℕ → Settings
trial_settings n = record {
  seed = replicate 32 0;
  nonces = [];
  resolver = None;
  ttl = default_minutes;
  probe = false;
  echo = false;
  locators = record { addr = V4 0xc6336401; priority = 1; weight = 1; up = true } ∷ [];
  attachments = record { vlan = 0; iid = 0 } ∷ [];
  databases = record { eid = eid_v4 0xc0a80000 16 refl; version = 0 } ∷ [];
  mappings = map trial_mapping (range_with_len 0 n);
  changes = [];
  limits = [];
}

-- a UDP datagram without payload and without checksum, from 192.168.0.1 to an address: port 1000 to 2000, TTL 64
abbrev pub datagram_to : ℕ → List ℕ
datagram_to dest =
    canonical_v4 (record {
      source = 0xc0a80001;
      dest = dest;
      tos = 0;
      total = 28;
      id = 0;
      dont_fragment = false;
      more = false;
      offset = 0;
      ttl = 64;
      protocol = 17;
      header_len = 20;
    })
    ++ canonical_udp (V4 0xc0a80001) (V4 dest) 1000 2000 [] false

-- the datagram to an address at j microseconds past 1,700,000,000 seconds
abbrev pub packet_to : ℕ → ℕ → Packet
packet_to dest j =
    record { moment = 1700000000 * 1000000000 + j * 1000; octets = datagram_to dest }

-- packet j of n, which goes to the first host of prefix 7 j mod n
abbrev pub trial_packet : ℕ → ℕ → Packet
trial_packet n j = packet_to (prefix_addr (7 * j % n) + 1) j

-- all n + 1 packets of a trial; the last one goes to 21.0.0.1, which no mapping covers
abbrev pub trial_packets : ℕ → List Packet
trial_packets n = map (trial_packet n) (range_with_len 0 n) ++ packet_to 0x15000001 n ∷ []

-- docs/FILE.md, "An example" and "Rules, and the field that each blames": files octet by octet, and each rule broken once, with the place that is blamed.
use Rattle.std.specs.Prelude.{true, false, List, [], ◌∷◌, ◌++◌, map, ◌≡◌, ℕ, ◌/◌, ◌%◌, take, drop, set, replicate}
use Rattle.label.specs.Runs.{run}
use Rattle.label.specs.Label.{label_of, zero_label}
use Rattle.option.specs.Permitted.{usual}
use Rattle.port.specs.Port.{plain_port}
use Rattle.table_levels.specs.Levels.{pair, no_pair}
use Rattle.table.specs.Renumbering.{no_renumbering}
use Rattle.file_port.specs.PortFormat.{no_port}
use Rattle.file_set.specs.declared.Set.{Set}
use Rattle.file_read.specs.File.{file_reading, file_room, file_octets}

-- 1. Two sets of records.

-- document 01, "The sample program"
abbrev pub sample_set : Set
sample_set =
    record {
      portcount = 2;
      ports =
          plain_port 5 (label_of 5 1 []) (label_of 5 5 (run 0 300 ∷ [])) true zero_label
          ∷ plain_port 9 (label_of 9 0 []) (label_of 9 255 (run 0 65534 ∷ [])) true zero_label
          ∷ replicate 14 no_port;
      tablecount = 1;
      tables =
          record { table = record { from = 5; to = 9; pairs = 3; count = 2 }; levels = pair 1 2 ∷ pair 3 4 ∷ pair 5 6 ∷ replicate 253 no_pair }
          ∷ replicate 7 no_renumbering;
    }

abbrev pub sample_rows : List ℕ
sample_rows = 0 ∷ 99 ∷ 1000 ∷ 100 ∷ 300 ∷ 0 ∷ []

-- a port with every field of version 3, and domains whose four octets differ
abbrev pub full_set : Set
full_set =
    record {
      portcount = 1;
      ports =
          record {
            domain = 16909060;
            lowest = label_of 16909060 1 [];
            highest = label_of 16909060 5 (run 0 100 ∷ run 102 300 ∷ []);
            required = false;
            assigned = label_of 16909060 3 (run 10 10 ∷ []);
            basic =
                record {
                  on = true;
                  receiving = record { lowest = 171; highest = 90; count = 2; flags = 0 ∷ 8192 ∷ replicate 254 0 };
                  sending = record { lowest = 150; highest = 90; count = 1; flags = 0 ∷ replicate 255 0 };
                };
            spellings = usual;
            unlabelled = true;
            default = label_of 16909060 2 [];
            strict = true;
          }
          ∷ replicate 15 no_port;
      tablecount = 1;
      tables =
          record { table = record { from = 5; to = 9; pairs = 2; count = 2 }; levels = pair 1 2 ∷ pair 3 4 ∷ replicate 254 no_pair }
          ∷ replicate 7 no_renumbering;
    }

-- 2. Their files.

abbrev pub first : List ℕ
first =
    0 ∷ 89 ∷ 1 ∷ 2
    -- the arriving port: domain, lowest, highest, required, assigned
    ∷ 0 ∷ 0 ∷ 0 ∷ 5
    ∷ 0 ∷ 0 ∷ 0 ∷ 5 ∷ 1 ∷ 0
    ∷ 0 ∷ 0 ∷ 0 ∷ 5 ∷ 5 ∷ 1 ∷ 0 ∷ 0 ∷ 1 ∷ 44
    ∷ 1
    ∷ 0 ∷ 0 ∷ 0 ∷ 0 ∷ 0 ∷ 0
    -- the leaving port
    ∷ 0 ∷ 0 ∷ 0 ∷ 9
    ∷ 0 ∷ 0 ∷ 0 ∷ 9 ∷ 0 ∷ 0
    ∷ 0 ∷ 0 ∷ 0 ∷ 9 ∷ 255 ∷ 1 ∷ 0 ∷ 0 ∷ 255 ∷ 254
    ∷ 1
    ∷ 0 ∷ 0 ∷ 0 ∷ 0 ∷ 0 ∷ 0
    -- one table: from, to, three pairs, two rows
    ∷ 1
    ∷ 0 ∷ 0 ∷ 0 ∷ 5
    ∷ 0 ∷ 0 ∷ 0 ∷ 9
    ∷ 0 ∷ 3 ∷ 1 ∷ 2 ∷ 3 ∷ 4 ∷ 5 ∷ 6
    ∷ 0 ∷ 2
    ∷ 0 ∷ 0 ∷ 0 ∷ 99 ∷ 3 ∷ 232
    ∷ 0 ∷ 100 ∷ 1 ∷ 44 ∷ 0 ∷ 0
    ∷ []

-- what version 2 says of a port behind the fields of version 1: off, no levels and no flag fields each way, spellings 13, labelled, no default label
abbrev pub later : List ℕ
later = 0 ∷ 0 ∷ 0 ∷ 0 ∷ 0 ∷ 0 ∷ 0 ∷ 0 ∷ 0 ∷ 13 ∷ 0 ∷ 0 ∷ 0 ∷ 0 ∷ 0 ∷ 0 ∷ 0 ∷ []

abbrev pub second : List ℕ
second = 0 ∷ 123 ∷ 2 ∷ 2 ∷ (take 27 (drop 4 first) ++ (later ++ (take 27 (drop 31 first) ++ (later ++ drop 58 first))))

-- version 3 adds an octet: not strict
abbrev pub third : List ℕ
third = 0 ∷ 125 ∷ 3 ∷ 2 ∷ (take 27 (drop 4 first) ++ (later ++ (0 ∷ (take 27 (drop 31 first) ++ (later ++ (0 ∷ drop 58 first))))))

abbrev pub full : List ℕ
full =
    0 ∷ 92 ∷ 3 ∷ 1
    -- 4: domain; 8: lowest; 14: highest, its runs at 20 and 24
    ∷ 1 ∷ 2 ∷ 3 ∷ 4
    ∷ 1 ∷ 2 ∷ 3 ∷ 4 ∷ 1 ∷ 0
    ∷ 1 ∷ 2 ∷ 3 ∷ 4 ∷ 5 ∷ 2 ∷ 0 ∷ 0 ∷ 0 ∷ 100 ∷ 0 ∷ 102 ∷ 1 ∷ 44
    -- 28: required; 29: assigned
    ∷ 0
    ∷ 1 ∷ 2 ∷ 3 ∷ 4 ∷ 3 ∷ 1 ∷ 0 ∷ 10 ∷ 0 ∷ 10
    -- 39: Basic Security on; 40: receiving; 48: sending; 54: spellings; 55: unlabelled; 56: default; 62: strict
    ∷ 1
    ∷ 171 ∷ 90 ∷ 0 ∷ 2 ∷ 0 ∷ 0 ∷ 32 ∷ 0
    ∷ 150 ∷ 90 ∷ 0 ∷ 1 ∷ 0 ∷ 0
    ∷ 13
    ∷ 1
    ∷ 1 ∷ 2 ∷ 3 ∷ 4 ∷ 2 ∷ 0
    ∷ 1
    -- 63: one table; 64: from; 68: to; 72: pairs; 78: rows
    ∷ 1
    ∷ 0 ∷ 0 ∷ 0 ∷ 5
    ∷ 0 ∷ 0 ∷ 0 ∷ 9
    ∷ 0 ∷ 2 ∷ 1 ∷ 2 ∷ 3 ∷ 4
    ∷ 0 ∷ 2
    ∷ 0 ∷ 0 ∷ 0 ∷ 99 ∷ 3 ∷ 232
    ∷ 0 ∷ 100 ∷ 1 ∷ 44 ∷ 0 ∷ 0
    ∷ []

pub record Files : Type 0 where
  pub sample_first : file_octets 1 sample_set sample_rows ≡ first
  pub sample_second : file_octets 2 sample_set sample_rows ≡ second
  pub sample_third : file_octets 3 sample_set sample_rows ≡ third
  pub all_fields : file_octets 3 full_set sample_rows ≡ full

-- 3. What the reader says: 0 accepted, 101 refused with the place that it blames, 102 a version that is not known, 103 rows that outgrow the room.

-- verdict and place, with this much room
abbrev pub told : List ℕ → ℕ → ℕ × ℕ
told o room = ((file_reading o room).verdict, (file_reading o room).at)

abbrev pub refused_at : ℕ → ℕ × ℕ
refused_at place = (101, place)

-- a file with some octets changed: place and octet of each
abbrev pub changed : List (ℕ × ℕ) → List ℕ → List ℕ
changed [] o = o
changed (c ∷ cs) o = changed cs (set o c.0 c.1)

-- a file that is cut off behind n octets, and says so
abbrev pub cut : ℕ → List ℕ → List ℕ
cut n o = n / 256 ∷ n % 256 ∷ drop 2 (take n o)

-- what is changed of the file with all fields, and what is said of it
abbrev pub broken : List (List (ℕ × ℕ) × (ℕ × ℕ))
broken =
    ([], (0, 0))
    -- the length; the version
    ∷ ((1, 91) ∷ [], (101, 0))
    ∷ ((1, 93) ∷ [], (101, 0))
    ∷ ((0, 1) ∷ [], (101, 0))
    ∷ ((2, 0) ∷ [], (102, 2))
    ∷ ((2, 4) ∷ [], (102, 2))
    -- the count of ports; a port's domain; its lowest and highest label
    ∷ ((3, 17) ∷ [], (101, 3))
    ∷ ((4, 0) ∷ (5, 0) ∷ (6, 0) ∷ (7, 0) ∷ [], (101, 4))
    ∷ ((8, 0) ∷ [], (101, 8))
    ∷ ((11, 5) ∷ [], (101, 8))
    ∷ ((13, 121) ∷ [], (101, 13))
    ∷ ((17, 5) ∷ [], (101, 14))
    ∷ ((19, 121) ∷ [], (101, 19))
    ∷ ((22, 255) ∷ (23, 255) ∷ [], (101, 22))
    ∷ ((25, 101) ∷ [], (101, 24))
    ∷ ((26, 0) ∷ [], (101, 26))
    ∷ ((26, 255) ∷ (27, 255) ∷ [], (101, 26))
    ∷ ((12, 6) ∷ [], (101, 14))
    -- required; the assigned label, where none is required and where one is
    ∷ ((28, 2) ∷ [], (101, 28))
    ∷ ((32, 5) ∷ [], (101, 29))
    ∷ ((33, 6) ∷ [], (101, 29))
    ∷ ((38, 101) ∷ [], (101, 29))
    ∷ ((28, 1) ∷ [], (101, 29))
    ∷ ((28, 1) ∷ (29, 0) ∷ (30, 0) ∷ (31, 0) ∷ (32, 0) ∷ [], (101, 33))
    ∷ ((28, 1) ∷ (29, 0) ∷ (30, 0) ∷ (31, 0) ∷ (32, 0) ∷ (33, 0) ∷ [], (101, 34))
    -- Basic Security, on and off
    ∷ ((39, 2) ∷ [], (101, 39))
    ∷ ((40, 172) ∷ [], (101, 40))
    ∷ ((41, 91) ∷ [], (101, 41))
    ∷ ((40, 90) ∷ (41, 171) ∷ [], (101, 41))
    ∷ ((42, 1) ∷ (43, 1) ∷ [], (101, 42))
    ∷ ((48, 1) ∷ [], (101, 48))
    ∷ ((49, 171) ∷ [], (101, 49))
    ∷ ((50, 1) ∷ [], (101, 50))
    ∷ ((39, 0) ∷ [], (101, 40))
    ∷ ((39, 0) ∷ (40, 0) ∷ [], (101, 41))
    ∷ ((39, 0) ∷ (40, 0) ∷ (41, 0) ∷ [], (101, 42))
    -- spellings; unlabelled; the default label
    ∷ ((54, 0) ∷ [], (101, 54))
    ∷ ((54, 16) ∷ [], (101, 54))
    ∷ ((55, 2) ∷ [], (101, 55))
    ∷ ((59, 5) ∷ [], (101, 56))
    ∷ ((60, 6) ∷ [], (101, 56))
    ∷ ((55, 0) ∷ [], (101, 56))
    ∷ ((55, 0) ∷ (56, 0) ∷ (57, 0) ∷ (58, 0) ∷ (59, 0) ∷ [], (101, 60))
    -- strict
    ∷ ((62, 2) ∷ [], (101, 62))
    ∷ ((62, 0) ∷ [], (0, 0))
    -- the count of tables; from, to; pairs; rows
    ∷ ((63, 9) ∷ [], (101, 63))
    ∷ ((67, 0) ∷ [], (101, 64))
    ∷ ((71, 0) ∷ [], (101, 68))
    ∷ ((72, 1) ∷ (73, 1) ∷ [], (101, 72))
    ∷ ((76, 1) ∷ [], (101, 76))
    ∷ ((77, 2) ∷ [], (101, 77))
    ∷ ((78, 4) ∷ (79, 1) ∷ [], (101, 78))
    ∷ ((87, 99) ∷ [], (101, 86))
    ∷ ((88, 0) ∷ [], (101, 88))
    ∷ ((88, 255) ∷ (89, 255) ∷ [], (101, 88))
    ∷ ((90, 255) ∷ (91, 54) ∷ [], (0, 0))
    ∷ ((90, 255) ∷ (91, 55) ∷ [], (101, 90))
    ∷ ((90, 3) ∷ (91, 232) ∷ [], (101, 90))
    -- fewer tables than there are: the first octet behind the last
    ∷ ((63, 0) ∷ [], (101, 64))
    ∷ []

-- where it is cut off, and the field that is blamed
abbrev pub cuts : List (ℕ × ℕ)
cuts =
    (2, 2) ∷ (3, 3)
    ∷ (4, 4) ∷ (7, 4) ∷ (8, 8) ∷ (11, 8) ∷ (12, 12) ∷ (13, 13) ∷ (14, 14) ∷ (18, 18) ∷ (19, 19) ∷ (20, 20) ∷ (21, 20) ∷ (22, 22) ∷ (23, 22) ∷ (24, 24) ∷ (26, 26) ∷ (27, 26)
    ∷ (28, 28) ∷ (29, 29) ∷ (33, 33) ∷ (34, 34) ∷ (35, 35) ∷ (37, 37) ∷ (38, 37)
    ∷ (39, 39) ∷ (40, 40) ∷ (41, 41) ∷ (42, 42) ∷ (43, 42) ∷ (44, 44) ∷ (45, 44) ∷ (46, 46) ∷ (48, 48) ∷ (49, 49) ∷ (50, 50) ∷ (52, 52) ∷ (54, 54) ∷ (55, 55) ∷ (56, 56) ∷ (59, 56) ∷ (60, 60) ∷ (61, 61)
    ∷ (62, 62) ∷ (63, 63) ∷ (64, 64) ∷ (67, 64) ∷ (68, 68) ∷ (72, 72) ∷ (73, 72) ∷ (74, 74) ∷ (75, 75) ∷ (76, 76) ∷ (77, 77) ∷ (78, 78) ∷ (79, 78)
    ∷ (80, 80) ∷ (82, 82) ∷ (84, 84) ∷ (85, 84) ∷ (86, 86) ∷ (88, 88) ∷ (90, 90) ∷ (91, 90)
    ∷ []

pub record Readings : Type 0 where
  -- the three files of the sample say its records; what lies behind their rows in the room stays
  pub sample_first : file_reading first 24576 ≡ record { verdict = 0; at = 0; used = 6; set = sample_set }
  pub sample_second : file_reading second 24576 ≡ record { verdict = 0; at = 0; used = 6; set = sample_set }
  pub sample_third : file_reading third 24576 ≡ record { verdict = 0; at = 0; used = 6; set = sample_set }
  -- all fields, the strict mark among them
  pub all_fields : file_reading full 24576 ≡ record { verdict = 0; at = 0; used = 6; set = full_set }
  pub rows_first : file_room first (replicate 8 7) ≡ 0 ∷ 99 ∷ 1000 ∷ 100 ∷ 300 ∷ 0 ∷ 7 ∷ 7 ∷ []
  pub rows_second : file_room second (replicate 8 7) ≡ 0 ∷ 99 ∷ 1000 ∷ 100 ∷ 300 ∷ 0 ∷ 7 ∷ 7 ∷ []
  -- each rule
  pub fields : map (λ (r : List (ℕ × ℕ) × (ℕ × ℕ)). told (changed r.0 full) 24576) broken ≡ map (λ (r : List (ℕ × ℕ) × (ℕ × ℕ)). r.1) broken
  pub cut_off : map (λ (r : ℕ × ℕ). told (cut r.0 full) 24576) cuts ≡ map (λ (r : ℕ × ℕ). refused_at r.1) cuts
  -- too short for a length
  pub nothing : told [] 24576 ≡ (101, 0)
  pub half : told (0 ∷ []) 24576 ≡ (101, 0)
  -- an octet behind the last table
  pub behind : told (changed ((1, 93) ∷ []) full ++ (0 ∷ [])) 24576 ≡ (101, 92)
  -- the example's three changes
  pub assigned : told (changed ((55, 1) ∷ []) first) 24576 ≡ (101, 52)
  pub target : told (changed ((87, 3) ∷ (88, 232) ∷ []) first) 24576 ≡ (101, 87)
  pub longer : told (changed ((1, 90) ∷ []) first ++ (0 ∷ [])) 24576 ≡ (101, 89)
  -- the counts of pairs and rows in a table of version 1
  pub pairs : told (changed ((68, 17) ∷ []) first) 24576 ≡ (101, 67)
  pub rows : told (changed ((76, 65) ∷ []) first) 24576 ≡ (101, 75)
  -- the room is looked at last
  pub outgrown : told full 5 ≡ (103, 0)
  pub last : told (changed ((90, 3) ∷ (91, 232) ∷ []) full) 5 ≡ (101, 90)
  -- 32 KiB and 60 KiB, and one octet more: no ports, no tables, and octets behind them
  pub held_first : told (128 ∷ 0 ∷ 1 ∷ replicate 32765 0) 24576 ≡ (101, 5)
  pub long_first : told (128 ∷ 1 ∷ 1 ∷ replicate 32766 0) 24576 ≡ (101, 0)
  pub held_second : told (240 ∷ 0 ∷ 2 ∷ replicate 61437 0) 24576 ≡ (101, 5)
  pub long_second : told (240 ∷ 1 ∷ 2 ∷ replicate 61438 0) 24576 ≡ (101, 0)
  pub held_third : told (240 ∷ 0 ∷ 3 ∷ replicate 61437 0) 24576 ≡ (101, 5)
  pub long_third : told (240 ∷ 1 ∷ 3 ∷ replicate 61438 0) 24576 ≡ (101, 0)

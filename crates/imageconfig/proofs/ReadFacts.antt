-- What a configuration that was read keeps: its environment is one.
use Rattle.std.specs.Prelude.{◌≡◌, ℕ, List, [], map, Option, Some, None, option_map, option_and_then, codes, refl}
use Rattle.std.proofs.Common.{subst}
use Rattle.std.proofs.lemmas.Option.{option_and_then_some}
use Rattle.serde_json.specs.Data.{Data, Members}
use Rattle.serde_json.specs.Find.{get, as_str, as_object}
use Rattle.options.specs.Lists.{all_some}
use Rattle.strict.specs.Strict.{list_in}
use Rattle.imageconfig.specs.declared.config.Config.{Config}
use Rattle.imageconfig.specs.declared.fields.Lists.{Lists}
use Rattle.imageconfig.specs.declared.fields.Objects.{Objects}
use Rattle.imageconfig.specs.declared.fields.Texts.{Texts}
use Rattle.imageconfig.specs.Environment.{IsEnvironment}
use Rattle.imageconfig.specs.Reading.{or_default, set_at, field, cut_row, if_they_differ, env_in, lists_in, objects_in, texts_in, bare, joined, groups_in, fields_in, settings_in, rootfs_in, config_in}
use Rattle.imageconfig.specs.Rows.{Row}
use Rattle.imageconfig.proofs.NameFacts.{cut_all, taken-environment, environment-none}

some_is : {X : Type 0} (x y : X) → Some x ≡ Some y → x ≡ y
some_is x y e = cc

mapped : {A B P : Type 0} (f : A → B) (o : Option A) (y : B) → option_map f o ≡ Some y → ((x : A) → o ≡ Some x → f x ≡ y → P) → P
mapped f None y e more = absurd cc
mapped f (Some x) y e more = more x refl (some_is (f x) y e)

-- the rows of an environment
env_is : (d : Data) (rows : List Row) → env_in d ≡ Some rows → IsEnvironment rows
unfolding env_in
env_is d rows e =
    option_and_then_some if_they_differ (option_and_then (λ texts. all_some (map cut_row texts)) (list_in as_str d)) rows e
    (λ cut from differ. option_and_then_some (λ texts. all_some (map cut_row texts)) (list_in as_str d) cut from
    (λ texts listed all. taken-environment cut rows (cut_all texts cut all) differ))

field_is : (o : Option Data) (rows : List Row) → or_default [] env_in o ≡ Some rows → IsEnvironment rows
field_is None rows e = subst IsEnvironment (some_is [] rows e) environment-none
field_is (Some d) rows e = env_is d rows e

lists_are : (d : Data) (lists : Lists) → lists_in d ≡ Some lists → IsEnvironment lists.env
unfolding lists_in
lists_are d lists e =
    option_and_then_some
    (λ cmd.
    option_and_then (λ entrypoint. option_map (λ env. record { cmd = cmd; entrypoint = entrypoint; env = env }) (field [] env_in (codes "Env") d))
    (field [] (list_in as_str) (codes "Entrypoint") d)) (field [] (list_in as_str) (codes "Cmd") d) lists e
    (λ cmd at_cmd by_cmd. option_and_then_some
    (λ entrypoint. option_map (λ env. record { cmd = cmd; entrypoint = entrypoint; env = env }) (field [] env_in (codes "Env") d))
    (field [] (list_in as_str) (codes "Entrypoint") d) lists by_cmd
    (λ entrypoint at_entrypoint by_entrypoint. mapped (λ env. record { cmd = cmd; entrypoint = entrypoint; env = env }) (field [] env_in (codes "Env") d) lists by_entrypoint
    (λ env at_env made. subst (λ (l : Lists). IsEnvironment l.env) made (field_is (set_at (codes "Env") d) env at_env))))

groups_are : (d : Data) (groups : Lists × Objects × Texts) → groups_in d ≡ Some groups → IsEnvironment groups.0.env
unfolding groups_in
groups_are d groups e =
    option_and_then_some
    (λ lists. option_and_then (λ objects. option_map (λ texts. (lists, objects, texts)) (texts_in d)) (objects_in d)) (lists_in d) groups e
    (λ lists at_lists by_lists. option_and_then_some
    (λ objects. option_map (λ texts. (lists, objects, texts)) (texts_in d)) (objects_in d) groups by_lists
    (λ objects at_objects by_objects. mapped (λ texts. (lists, objects, texts)) (texts_in d) groups by_objects
    (λ texts at_texts made. subst (λ (g : Lists × Objects × Texts). IsEnvironment g.0.env) made (lists_are d lists at_lists))))

fields_are : (architecture os : List ℕ) (d : Data) (config : Config) → fields_in architecture os d ≡ Some config → IsEnvironment config.env
unfolding fields_in
fields_are architecture os d config e =
    mapped (λ groups. joined architecture os groups.0 groups.1 groups.2) (groups_in d) config e
    (λ groups at_groups made. subst (λ (c : Config). IsEnvironment c.env) made (groups_are d groups at_groups))

settings_are : (architecture os : List ℕ) (d : Data) (config : Config) → settings_in architecture os d ≡ Some config → IsEnvironment config.env
settings_are architecture os d config e =
    option_and_then_some (λ (members : Members). fields_in architecture os d) (as_object d) config e (λ members at_object by_object. fields_are architecture os d config by_object)

set_is : (architecture os : List ℕ) (o : Option Data) (config : Config) → or_default (bare architecture os) (settings_in architecture os) o ≡ Some config
    → IsEnvironment config.env
set_is architecture os None config e = subst (λ (c : Config). IsEnvironment c.env) (some_is (bare architecture os) config e) environment-none
set_is architecture os (Some d) config e = settings_are architecture os d config e

pub read_is : (d : Data) (config : Config) → config_in d ≡ Some config → IsEnvironment config.env
unfolding config_in
read_is d config e =
    option_and_then_some
    (λ architecture. option_and_then (λ os. option_and_then (λ layers. or_default (bare architecture os) (settings_in architecture os) (get (codes "config") d))
    (option_and_then rootfs_in (get (codes "rootfs") d))) (option_and_then as_str (get (codes "os") d)))
    (option_and_then as_str (get (codes "architecture") d)) config e
    (λ architecture at_architecture by_architecture. option_and_then_some
    (λ os. option_and_then (λ layers. or_default (bare architecture os) (settings_in architecture os) (get (codes "config") d))
    (option_and_then rootfs_in (get (codes "rootfs") d))) (option_and_then as_str (get (codes "os") d)) config by_architecture
    (λ os at_os by_os. option_and_then_some (λ layers. or_default (bare architecture os) (settings_in architecture os) (get (codes "config") d))
    (option_and_then rootfs_in (get (codes "rootfs") d)) config by_os
    (λ layers at_layers by_layers. set_is architecture os (get (codes "config") d) config by_layers)))

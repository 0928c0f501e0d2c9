-- Which states are consistent, of the definition: each table is one theorem, by computation.
use mathlib.Core.Path.{◌≡◌, refl}
use mathlib.Core.List.{map}
use Rattle.model.specs.Tables.{parts, accounts_of}
use Rattle.model.specs.Inconsistent.{given_refusal, stated_refusal, four, good_heap, good_accounts, with_records, with_quotas, nothing_held}
use Rattle.model.specs.Inconsistent.{consistent_states, broken_cuts, broken_records, broken_balances, permission_numbers}
use Rattle.model.proofs.Computing.{computing}

pub consistent_states_run : map given_refusal consistent_states ≡ map stated_refusal consistent_states
unfolding computing parts accounts_of given_refusal stated_refusal four good_heap good_accounts with_records with_quotas nothing_held consistent_states
consistent_states_run = refl

pub broken_cuts_run : map given_refusal broken_cuts ≡ map stated_refusal broken_cuts
unfolding computing parts accounts_of given_refusal stated_refusal four good_heap good_accounts broken_cuts
broken_cuts_run = refl

pub broken_records_run : map given_refusal broken_records ≡ map stated_refusal broken_records
unfolding computing parts accounts_of given_refusal stated_refusal four good_heap good_accounts with_records broken_records
broken_records_run = refl

pub broken_balances_run : map given_refusal broken_balances ≡ map stated_refusal broken_balances
unfolding computing parts accounts_of given_refusal stated_refusal four good_heap good_accounts with_quotas broken_balances
broken_balances_run = refl

pub permission_numbers_run : map given_refusal permission_numbers ≡ map stated_refusal permission_numbers
unfolding computing parts accounts_of given_refusal stated_refusal four good_heap with_quotas permission_numbers
permission_numbers_run = refl

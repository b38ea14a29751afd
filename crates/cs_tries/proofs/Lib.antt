mod TryRuns
